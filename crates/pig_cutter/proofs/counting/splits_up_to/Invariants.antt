use Rattle.std.proofs.Common.{◌≡◌, ◌≤◌, ◌+◌, length, min}
use Rattle.std.specs.List.{sum_by}
use Rattle.pig_storage.specs.Splits.{split_count}
use Rattle.pig_cutter.proofs.counting.splits_up_to.Given as goal

abbrev pub invariant-loop-left : goal.invariant-loop-left
invariant-loop-left l =
    (l.sum ≤ l.limit) × (min l.limit (l.sum + sum_by (split_count l.split) l.left) ≡ min l.limit (sum_by (split_count l.split) l.lengths))

abbrev pub decreases-loop-left : goal.decreases-loop-left
decreases-loop-left l = length l.left
