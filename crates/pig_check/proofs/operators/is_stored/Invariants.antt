use Rattle.std.proofs.Common.{◌≡◌, drop}
use Rattle.pig_plan.specs.Plans.{plan_of}
use Rattle.pig_check.specs.States.{is_stored}
use Rattle.pig_check.proofs.operators.is_stored.Given as goal

abbrev pub invariant-loop-node : goal.invariant-loop-node
invariant-loop-node l = is_stored l.path (plan_of (drop l.node-index l.nodes)) ≡ is_stored l.path (plan_of l.plan)
