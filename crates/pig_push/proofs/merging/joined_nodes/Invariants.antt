use Rattle.std.proofs.Common.{◌≡◌}
use Rattle.pig_plan.specs.Plans.{plan_of}
use Rattle.pig_push.specs.Merged.{plan_held}
use Rattle.pig_push.proofs.merging.joined_nodes.Given as goal

abbrev pub invariant-loop-one : goal.invariant-loop-one
invariant-loop-one l = plan_of l.nodes ≡ plan_held l.yielded
