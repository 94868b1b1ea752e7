use Rattle.std.proofs.Common.{◌≡◌, length}
use Rattle.pig_plan.specs.Plans.{plan_of}
use Rattle.pig_plan.specs.Results.{results_behind}
use Rattle.pig_reach.specs.Flows.{comes_to, flows_of}
use Rattle.pig_reach.proofs.reads.flows.Given as goal

abbrev pub invariant-loop-left : goal.invariant-loop-left
invariant-loop-left l = results_behind (λ k node. comes_to l.inputs node.op) 0 l.flows.items (plan_of l.left) ≡ flows_of l.inputs (plan_of l.nodes)

abbrev pub decreases-loop-left : goal.decreases-loop-left
decreases-loop-left l = length l.left
