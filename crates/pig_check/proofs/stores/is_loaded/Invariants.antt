use Rattle.std.proofs.Common.{◌≡◌, drop}
use Rattle.pig_plan.specs.Plans.{plan_of}
use Rattle.pig_check.specs.States.{is_loaded}
use Rattle.pig_check.proofs.stores.is_loaded.Given as goal

abbrev pub invariant-loop-node : goal.invariant-loop-node
invariant-loop-node l = is_loaded l.path (plan_of (drop l.node-index l.nodes)) ≡ is_loaded l.path (plan_of l.plan)
