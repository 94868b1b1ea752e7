use Rattle.std.proofs.Common.{◌≡◌, ◌++◌, [], length, map}
use Rattle.pig_value.specs.Trees.{rows_tree}
use Rattle.pig_value.specs.Valid.{AreRows}
use Rattle.pig_typed.specs.Typed.{typed}
use Rattle.pig_operators.specs.Keying.{keyed_rows}
use Rattle.pig_operators.proofs.keyed.add_rows.Given as goal

abbrev pub invariant-rows : goal.invariant-rows
invariant-rows l = (l.builder.dirs ≡ [])
    × AreRows (rows_tree l.left)
    × (l.builder.entries ++ keyed_rows (map typed l.keys) l.number (rows_tree l.left)
    ≡ l.fn.builder.entries ++ keyed_rows (map typed l.keys) l.number (rows_tree l.rows))

abbrev pub decreases-rows : goal.decreases-rows
decreases-rows l = length l.left
