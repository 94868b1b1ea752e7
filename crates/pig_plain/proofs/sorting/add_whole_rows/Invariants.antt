use Rattle.std.proofs.Common.{◌≡◌, ◌++◌, [], map}
use Rattle.pig_value.specs.Trees.{rows_tree}
use Rattle.pig_value.specs.Valid.{AreRows}
use Rattle.pig_operators.specs.Keying.{row_entry}
use Rattle.pig_plain.proofs.sorting.add_whole_rows.Given as goal

abbrev pub invariant-loop-row : goal.invariant-loop-row
invariant-loop-row l = (l.builder.dirs ≡ [])
    × AreRows (rows_tree l.row-iterator.rest.items)
    × (l.builder.entries ≡ l.fn.builder.entries ++ map row_entry (rows_tree l.yielded))
