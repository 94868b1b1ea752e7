use Rattle.std.proofs.Common.{◌≡◌, drop}
use Rattle.pig_plan.specs.Plans.{plan_of}
use Rattle.pig_plan.specs.Valid.{ascends_from, in_order}
use Rattle.pig_share.proofs.apart.stand_in_order.Given as goal

abbrev pub invariant-loop-node : goal.invariant-loop-node
invariant-loop-node l = ascends_from l.latest (plan_of (drop l.node-index l.nodes)) ≡ in_order (plan_of l.nodes)
