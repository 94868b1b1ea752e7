use Rattle.std.proofs.Common.{◌≡◌, ◌||◌, ℕ, false, length, get_or}
use Rattle.pig_needs.specs.Needed.{is_named}
use Rattle.pig_needs.proofs.marks.named_marks.Given as goal

abbrev pub invariant-loop-left : goal.invariant-loop-left
invariant-loop-left l = (k : ℕ) → (is_named l.left k || get_or l.marks k false) ≡ is_named l.need k

abbrev pub decreases-loop-left : goal.decreases-loop-left
decreases-loop-left l = length l.left
