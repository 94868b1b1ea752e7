use Rattle.std.proofs.Common.{◌≡◌, ◌||◌, length}
use Rattle.pig_needs.specs.declared.lists.Need.{Need}
use Rattle.pig_needs.specs.Marked.{has_entry}
use Rattle.pig_needs.specs.Needed.{is_needed}
use Rattle.pig_needs.proofs.marks.index_of.Given as goal

abbrev pub invariant-loop-left : goal.invariant-loop-left
invariant-loop-left l = (n : Need) → (is_needed n l.left || has_entry l.index.items n) ≡ is_needed n l.need

abbrev pub decreases-loop-left : goal.decreases-loop-left
decreases-loop-left l = length l.left
