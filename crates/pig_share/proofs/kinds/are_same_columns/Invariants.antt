use Rattle.std.proofs.Common.{◌≡◌, length}
use Rattle.pig_share.specs.Same.{same_all, same_column}
use Rattle.pig_share.proofs.kinds.are_same_columns.Given as goal

abbrev pub invariant-loop-left : goal.invariant-loop-left
invariant-loop-left l = (same_all same_column l.left l.other ≡ same_all same_column l.a l.b) × (l.left ≡ l.other → l.a ≡ l.b)

abbrev pub decreases-loop-left : goal.decreases-loop-left
decreases-loop-left l = length l.left
