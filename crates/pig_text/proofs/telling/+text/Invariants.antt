-- What is told so far is the texts of the items so far, with the separator between each two.
use Rattle.std.proofs.Common.{◌+◌, ◌*◌, map, take}
use Rattle.std.specs.List.{join_with_byte}
use Rattle.pig_value.specs.Texts.{text_of}
use Rattle.pig_value.specs.Trees.{row_tree, rows_tree, entry_of}
use Rattle.pig_text.specs.Texts.{row_as_tuple, pair_text}
use Rattle.pig_text.proofs.telling.+text.Given as goal

abbrev pub decreases-tell_value : goal.decreases-tell_value
decreases-tell_value g l = 8 * goal.size-tell_value g l

abbrev pub decreases-tell_fields : goal.decreases-tell_fields
decreases-tell_fields g l = 8 * goal.size-tell_fields g l + 1

abbrev pub decreases-tell_tuple : goal.decreases-tell_tuple
decreases-tell_tuple g l = 8 * goal.size-tell_tuple g l + 2

abbrev pub decreases-tell_rows : goal.decreases-tell_rows
decreases-tell_rows g l = 8 * goal.size-tell_rows g l + 3

abbrev pub decreases-tell_bag : goal.decreases-tell_bag
decreases-tell_bag g l = 8 * goal.size-tell_bag g l + 4

abbrev pub decreases-tell_pair : goal.decreases-tell_pair
decreases-tell_pair g l = 8 * goal.size-tell_pair g l + 1

abbrev pub decreases-tell_pairs : goal.decreases-tell_pairs
decreases-tell_pairs g l = 8 * goal.size-tell_pairs g l + 2

abbrev pub decreases-tell_map : goal.decreases-tell_map
decreases-tell_map g l = 8 * goal.size-tell_map g l + 3

abbrev pub invariant-tell_fields-loop-i : goal.invariant-tell_fields-loop-i
invariant-tell_fields-loop-i g l = g.S.TextSink.after l.fn.sink (join_with_byte l.separator (take l.i (map text_of (row_tree l.fields)))) l.sink

abbrev pub invariant-tell_rows-loop-i : goal.invariant-tell_rows-loop-i
invariant-tell_rows-loop-i g l = g.S.TextSink.after l.fn.sink (join_with_byte 44 (take l.i (map row_as_tuple (rows_tree l.rows)))) l.sink

abbrev pub invariant-tell_pairs-loop-i : goal.invariant-tell_pairs-loop-i
invariant-tell_pairs-loop-i g l = g.S.TextSink.after l.fn.sink (join_with_byte 44 (take l.i (map pair_text (map entry_of l.pairs)))) l.sink
