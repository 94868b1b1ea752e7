use Rattle.std.proofs.Common.{◌≡◌, length}
use Rattle.pig_share.specs.Same.{same_all, same_key}
use Rattle.pig_share.proofs.blocks.are_same_sort_keys.Given as goal

abbrev pub invariant-loop-left : goal.invariant-loop-left
invariant-loop-left l = same_all same_key l.left l.other ≡ same_all same_key l.a l.b

abbrev pub decreases-loop-left : goal.decreases-loop-left
decreases-loop-left l = length l.left
