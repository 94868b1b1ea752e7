use Rattle.std.proofs.Common.{◌≡◌, length}
use Rattle.pig_plan.specs.Counts.{counts_of, ways_up_to}
use Rattle.pig_plan.specs.Plans.{plan_of}
use Rattle.pig_plan.specs.Results.{results_behind}
use Rattle.pig_plan.proofs.counting.count_paths.Given as goal

abbrev pub invariant-loop-left : goal.invariant-loop-left
invariant-loop-left l = results_behind (λ k node. ways_up_to l.limit node.op) 0 l.counts.items (plan_of l.left) ≡ counts_of l.limit (plan_of l.nodes)

abbrev pub decreases-loop-left : goal.decreases-loop-left
decreases-loop-left l = length l.left
