use Rattle.std.proofs.Common.{◌≡◌, length}
use Rattle.pig_plan.specs.Plans.{plan_of}
use Rattle.pig_plan.specs.Results.{at_place, results_behind}
use Rattle.pig_cutter.specs.Tables.{weigh, weights_of}
use Rattle.pig_cutter.proofs.weighing.weights.Given as goal

abbrev pub invariant-loop-left : goal.invariant-loop-left
invariant-loop-left l =
    results_behind (λ k node. weigh l.limit (at_place 0 l.listing.counts.now k) node.op) 0 l.found.items (plan_of l.left)
    ≡ weights_of l.limit (at_place 0 l.listing.counts.now) (plan_of l.listing.nodes.now)

abbrev pub decreases-loop-left : goal.decreases-loop-left
decreases-loop-left l = length l.left
