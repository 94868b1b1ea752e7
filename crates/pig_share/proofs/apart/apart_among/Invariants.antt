use Rattle.std.proofs.Common.{◌≡◌, false, map, take}
use Rattle.pig_plan.specs.Plans.{plan_of}
use Rattle.pig_plan.specs.Results.{at_place}
use Rattle.pig_share.specs.Shared.{is_apart}
use Rattle.pig_share.proofs.apart.apart_among.Given as goal

abbrev pub invariant-loop-node : goal.invariant-loop-node
invariant-loop-node l = l.apart.items ≡ map (λ node. is_apart l.ordered (at_place false l.sorted) node.op) (plan_of (take l.node-index l.nodes))
