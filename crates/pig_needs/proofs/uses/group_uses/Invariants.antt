use Rattle.std.proofs.Common.{◌≡◌, ◌++◌, map, length}
use Rattle.pig_plan.specs.Meaning.{width_at}
use Rattle.pig_plan.specs.Plans.{keyed_of, plan_of}
use Rattle.pig_needs.specs.Needed.{group_uses}
use Rattle.pig_needs.proofs.uses.group_uses.Given as goal

abbrev pub invariant-loop-left : goal.invariant-loop-left
invariant-loop-left l = l.uses ++ group_uses (width_at (plan_of l.plan)) l.own l.bag (map keyed_of l.left) ≡ group_uses (width_at (plan_of l.plan)) l.own 1 (map keyed_of l.inputs)

abbrev pub decreases-loop-left : goal.decreases-loop-left
decreases-loop-left l = length l.left
