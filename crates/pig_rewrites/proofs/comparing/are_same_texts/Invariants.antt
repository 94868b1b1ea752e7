use Rattle.std.proofs.Common.{◌≡◌, length}
use Rattle.pig_rewrites.proofs.comparing.are_same_texts.Given as goal

abbrev pub invariant-loop-left : goal.invariant-loop-left
invariant-loop-left l = l.others_left ≡ l.left → l.others ≡ l.texts

abbrev pub decreases-loop-left : goal.decreases-loop-left
decreases-loop-left l = length l.left
