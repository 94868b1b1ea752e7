use Rattle.std.proofs.Common.{◌≡◌, length}
use Rattle.pig_plan.specs.Plans.{plan_of}
use Rattle.pig_plan.specs.Results.{results_behind}
use Rattle.pig_cutter.specs.Tables.{count_to, counts_of, sizing_of}
use Rattle.pig_cutter.proofs.counting.counts.Given as goal

abbrev pub invariant-loop-left : goal.invariant-loop-left
invariant-loop-left l =
    results_behind (λ k node. count_to l.limit (sizing_of l.sizes l.reducers l.split) node.op) 0 l.found.items (plan_of l.left)
    ≡ counts_of l.limit (sizing_of l.sizes l.reducers l.split) (plan_of l.nodes)

abbrev pub decreases-loop-left : goal.decreases-loop-left
decreases-loop-left l = length l.left
