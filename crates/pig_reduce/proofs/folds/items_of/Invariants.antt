-- The items so far, and those of the cuts that are left.
use Rattle.std.proofs.Common.{◌≡◌, ◌++◌, ◌∷◌, [], map, drop}
use Rattle.pig_value.specs.Trees.{Tree, row_tree, rows_tree}
use Rattle.pig_value.specs.Valid.{IsRow}
use Rattle.pig_algebra.specs.Combining.{finished}
use Rattle.pig_algebra.specs.Cuts.{cut_typed}
use Rattle.pig_reduce.proofs.folds.items_of.Given as goal

abbrev pub invariant-loop-cut : goal.invariant-loop-cut
invariant-loop-cut l =
    ((key : Tree) → row_tree l.keyed ≡ key ∷ []
    → row_tree l.row ++ finished (map cut_typed (drop l.cut-index l.cuts)) key (map (drop l.place) (rows_tree l.rows)) ≡ finished (map cut_typed l.cuts) key
    (rows_tree l.rows))
    × IsRow (row_tree l.row)
