use Rattle.std.proofs.Common.{◌≡◌}
use Rattle.pig_plan.specs.Plans.{plan_of}
use Rattle.pig_push.proofs.moving.planned.Given as goal

abbrev pub invariant-loop-node : goal.invariant-loop-node
invariant-loop-node l = plan_of l.made ≡ plan_of l.yielded
