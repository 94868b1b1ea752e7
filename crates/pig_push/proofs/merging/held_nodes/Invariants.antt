use Rattle.std.proofs.Common.{◌≡◌}
use Rattle.pig_plan.specs.Plans.{plan_of}
use Rattle.pig_push.specs.Merged.{plan_held}
use Rattle.pig_push.proofs.merging.held_nodes.Given as goal

abbrev pub invariant-loop-node : goal.invariant-loop-node
invariant-loop-node l = plan_held l.held ≡ plan_of l.yielded
