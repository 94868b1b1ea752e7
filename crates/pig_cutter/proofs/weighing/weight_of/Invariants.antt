use Rattle.std.proofs.Common.{◌≡◌, ◌≤◌, ◌+◌, length, min}
use Rattle.std.specs.List.{sum_by}
use Rattle.pig_plan.specs.Results.{at_place}
use Rattle.pig_cutter.specs.Tables.{weight_of}
use Rattle.pig_cutter.specs.declared.feeding.Feed.{Feed}
use Rattle.pig_cutter.proofs.weighing.weight_of.Given as goal

abbrev pub invariant-loop-left : goal.invariant-loop-left
invariant-loop-left l =
    (l.sum ≤ l.limit) × (min l.limit (l.sum + sum_by {X = Feed} (λ feed. at_place 0 l.weights feed.from) l.left) ≡ weight_of l.limit (at_place 0 l.weights) l.feeds)

abbrev pub decreases-loop-left : goal.decreases-loop-left
decreases-loop-left l = length l.left
