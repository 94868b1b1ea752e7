use Rattle.std.proofs.Common.{◌≡◌, ◌++◌, [], length}
use Rattle.pig_value.specs.Trees.{rows_tree}
use Rattle.pig_value.specs.Valid.{AreRows}
use Rattle.pig_operators.specs.Keying.{all_rows_keyed}
use Rattle.pig_operators.proofs.keyed.add_all_under.Given as goal

abbrev pub invariant-rows : goal.invariant-rows
invariant-rows l = (l.builder.dirs ≡ []) × AreRows (rows_tree l.left)
    × (l.builder.entries ++ all_rows_keyed (rows_tree l.left) ≡ l.fn.builder.entries ++ all_rows_keyed (rows_tree l.rows))

abbrev pub decreases-rows : goal.decreases-rows
decreases-rows l = length l.left
