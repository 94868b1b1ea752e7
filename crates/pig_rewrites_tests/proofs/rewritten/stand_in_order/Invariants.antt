use Rattle.std.proofs.Common.{◌≡◌, length, true}
use Rattle.pig_plan.specs.Plans.{plan_of}
use Rattle.pig_plan.specs.Valid.{ascends_from, in_order}
use Rattle.pig_rewrites_tests.proofs.rewritten.stand_in_order.Given as goal

abbrev pub invariant-loop-left : goal.invariant-loop-left
invariant-loop-left l = ascends_from l.latest (plan_of l.left) ≡ true → in_order (plan_of l.nodes) ≡ true

abbrev pub decreases-loop-left : goal.decreases-loop-left
decreases-loop-left l = length l.left
