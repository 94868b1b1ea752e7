use Rattle.std.proofs.Common.{◌≡◌, ◌++◌, map, length}
use Rattle.pig_plan.specs.Meaning.{width_at}
use Rattle.pig_plan.specs.Plans.{plan_of}
use Rattle.pig_needs.specs.Needed.{whole_use}
use Rattle.pig_needs.proofs.uses.union_uses.Given as goal

abbrev pub invariant-loop-left : goal.invariant-loop-left
invariant-loop-left l = l.uses ++ map (whole_use (width_at (plan_of l.plan))) l.left ≡ map (whole_use (width_at (plan_of l.plan))) l.inputs

abbrev pub decreases-loop-left : goal.decreases-loop-left
decreases-loop-left l = length l.left
