use Rattle.std.proofs.Common.{◌≡◌, false, drop}
use Rattle.pig_plan.specs.Nodes.{lists}
use Rattle.pig_plan.specs.Plans.{plan_of}
use Rattle.pig_plan.specs.Results.{at_place, results_behind}
use Rattle.pig_rewrites.specs.Ends.{marks_over}
use Rattle.pig_rewrites.proofs.comparing.marks_over.Given as goal

abbrev pub invariant-loop-node : goal.invariant-loop-node
invariant-loop-node l =
    results_behind (λ k node. lists (at_place false l.sorted) node.op) false l.listed.items (plan_of (drop l.node-index l.nodes))
    ≡ marks_over (at_place false l.sorted) (plan_of l.nodes)
