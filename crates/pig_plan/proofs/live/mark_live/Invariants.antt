use Rattle.std.proofs.Common.{◌≤◌, length}
use Rattle.pig_plan.specs.Plans.{plan_of}
use Rattle.pig_plan.specs.Marks.{AreMarks}
use Rattle.pig_plan.proofs.live.mark_live.Given as goal

abbrev pub invariant-marks : goal.invariant-marks
invariant-marks l = (l.number ≤ length l.nodes) × AreMarks (plan_of l.nodes) l.number l.marks.items

abbrev pub decreases-marks : goal.decreases-marks
decreases-marks l = l.number
