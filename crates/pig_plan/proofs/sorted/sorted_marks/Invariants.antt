use Rattle.std.proofs.Common.{◌≡◌, false, drop}
use Rattle.pig_plan.specs.Nodes.{sorted_marks, sorts}
use Rattle.pig_plan.specs.Plans.{plan_of}
use Rattle.pig_plan.specs.Results.{results_behind}
use Rattle.pig_plan.proofs.sorted.sorted_marks.Given as goal

abbrev pub invariant-loop-node : goal.invariant-loop-node
invariant-loop-node l = results_behind (λ k node. sorts node.op) false l.marks.items (plan_of (drop l.node-index l.nodes)) ≡ sorted_marks (plan_of l.nodes)
