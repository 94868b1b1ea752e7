use Rattle.std.proofs.Common.{◌≡◌, drop}
use Rattle.std.specs.List.{list_any}
use Rattle.pig_plan.specs.Plans.{node_of, plan_of}
use Rattle.pig_plan.specs.Valid.{is_twin}
use Rattle.pig_plan.proofs.plan.finds_twin.Given as goal

abbrev pub invariant-loop-other : goal.invariant-loop-other
invariant-loop-other l = list_any (is_twin (node_of l.node)) (plan_of (drop l.other-index l.nodes)) ≡ list_any (is_twin (node_of l.node)) (plan_of l.nodes)
