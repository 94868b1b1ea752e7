-- A value falls with the bytes that are left, a list at the same bytes by its rank. What was read of a list, and
-- what is left tells the rest of it.
use Rattle.std.proofs.Common.{◌≤◌, ◌+◌, ◌*◌, length, map}
use Rattle.pig_value.specs.Trees.{row_tree, rows_tree, entry_of}
use Rattle.pig_keycode.specs.Codes.{code}
use Rattle.pig_value.specs.Valid.{IsValue}
use Rattle.pig_keycode.specs.Reading.{row_code, pair_code, IsCodedPair}
use Rattle.pig_value.specs.Valid.{IsRow}
use Rattle.pig_keycode.proofs.Sequences.{ListGoes}
use Rattle.pig_keycode.proofs.decoding.+read.Given as goal

abbrev pub decreases-read_value : goal.decreases-read_value
decreases-read_value l = 8 * length l.bytes.now

abbrev pub decreases-read_content : goal.decreases-read_content
decreases-read_content l = 8 * length l.content.now + 5

abbrev pub decreases-read_tuple_value : goal.decreases-read_tuple_value
decreases-read_tuple_value l = 8 * length l.content.now + 4

abbrev pub decreases-read_bag_value : goal.decreases-read_bag_value
decreases-read_bag_value l = 8 * length l.content.now + 4

abbrev pub decreases-read_listed_value : goal.decreases-read_listed_value
decreases-read_listed_value l = 8 * length l.content.now + 4

abbrev pub decreases-read_map_value : goal.decreases-read_map_value
decreases-read_map_value l = 8 * length l.content.now + 4

abbrev pub decreases-read_fields : goal.decreases-read_fields
decreases-read_fields l = 8 * length l.bytes.now + 3

abbrev pub decreases-read_rows : goal.decreases-read_rows
decreases-read_rows l = 8 * length l.bytes.now + 3

abbrev pub decreases-read_pairs : goal.decreases-read_pairs
decreases-read_pairs l = 8 * length l.bytes.now + 3

abbrev pub decreases-read_row : goal.decreases-read_row
decreases-read_row l = 8 * length l.bytes.now + 1

abbrev pub decreases-read_pair : goal.decreases-read_pair
decreases-read_pair l = 8 * length l.bytes.now + 1

abbrev pub invariant-read_fields-loop-fields : goal.invariant-read_fields-loop-fields
invariant-read_fields-loop-fields l = ListGoes code IsValue l.bytes l.rest (row_tree l.fields) × (length l.rest ≤ length l.bytes)

abbrev pub decreases-read_fields-loop-fields : goal.decreases-read_fields-loop-fields
decreases-read_fields-loop-fields l = length l.rest

abbrev pub invariant-read_rows-loop-rows : goal.invariant-read_rows-loop-rows
invariant-read_rows-loop-rows l = ListGoes row_code IsRow l.bytes l.rest (rows_tree l.rows) × (length l.rest ≤ length l.bytes)

abbrev pub decreases-read_rows-loop-rows : goal.decreases-read_rows-loop-rows
decreases-read_rows-loop-rows l = length l.rest

abbrev pub invariant-read_pairs-loop-pairs : goal.invariant-read_pairs-loop-pairs
invariant-read_pairs-loop-pairs l = ListGoes pair_code IsCodedPair l.bytes l.rest (map entry_of l.pairs) × (length l.rest ≤ length l.bytes)

abbrev pub decreases-read_pairs-loop-pairs : goal.decreases-read_pairs-loop-pairs
decreases-read_pairs-loop-pairs l = length l.rest
