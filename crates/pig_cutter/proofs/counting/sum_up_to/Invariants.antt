use Rattle.std.proofs.Common.{◌≡◌, ◌≤◌, ◌+◌, length, min}
use Rattle.std.specs.List.{sum_by}
use Rattle.pig_plan.specs.Results.{at_place}
use Rattle.pig_cutter.proofs.counting.sum_up_to.Given as goal

abbrev pub invariant-loop-left : goal.invariant-loop-left
invariant-loop-left l =
    (l.sum ≤ l.limit) × (min l.limit (l.sum + sum_by (at_place 0 l.counts) l.left) ≡ min l.limit (sum_by (at_place 0 l.counts) l.numbers))

abbrev pub decreases-loop-left : goal.decreases-loop-left
decreases-loop-left l = length l.left
