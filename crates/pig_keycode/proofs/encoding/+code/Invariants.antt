-- What is written and what is to come are the whole code. A list is as deep as its deepest value, so a list of
-- rows, a row and its fields fall by their ranks.
use Rattle.std.proofs.Common.{◌≡◌, ◌+◌, ◌*◌, ◌∷◌, ◌++◌, drop, map}
use Rattle.pig_value.specs.Trees.{row_tree, rows_tree, entry_of, fields_of, tuples_of, entries_of}
use Rattle.pig_keycode.specs.Codes.{fields_code, tuples_code, entries_code}
use Rattle.pig_value.specs.Extended.{IsExtended}
use Rattle.pig_keycode.proofs.encoding.+code.Given as goal

abbrev pub decreases-write_value : goal.decreases-write_value
decreases-write_value l = 3 * goal.size-write_value l

abbrev pub decreases-write_fields : goal.decreases-write_fields
decreases-write_fields l = 3 * goal.size-write_fields l + 1

abbrev pub decreases-write_rows : goal.decreases-write_rows
decreases-write_rows l = 3 * goal.size-write_rows l + 2

abbrev pub decreases-write_pairs : goal.decreases-write_pairs
decreases-write_pairs l = 3 * goal.size-write_pairs l + 1

abbrev pub invariant-write_fields-loop-value : goal.invariant-write_fields-loop-value
invariant-write_fields-loop-value l = (l.out.items ++ fields_code (fields_of (row_tree (drop l.value-index l.value-items))) ≡ l.fn.out.items ++ l.tag ∷ fields_code (fields_of (row_tree l.value-items))) × IsExtended l.fn.out.items l.out.items

abbrev pub invariant-write_rows-loop-row : goal.invariant-write_rows-loop-row
invariant-write_rows-loop-row l = (l.out.items ++ tuples_code (tuples_of (rows_tree (drop l.row-index l.row-items))) ≡ l.fn.out.items ++ l.tag ∷ tuples_code (tuples_of (rows_tree l.row-items))) × IsExtended l.fn.out.items l.out.items

abbrev pub invariant-write_pairs-loop-pair : goal.invariant-write_pairs-loop-pair
invariant-write_pairs-loop-pair l = (l.out.items ++ entries_code (entries_of (map entry_of (drop l.pair-index l.pair-items))) ≡ l.fn.out.items ++ l.tag ∷ entries_code (entries_of (map entry_of l.pair-items))) × IsExtended l.fn.out.items l.out.items
