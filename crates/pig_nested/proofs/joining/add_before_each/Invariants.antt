use Rattle.std.proofs.Common.{◌≡◌, ◌++◌, map, drop}
use Rattle.pig_value.specs.Trees.{row_tree, rows_tree}
use Rattle.pig_nested.proofs.joining.add_before_each.Given as goal

abbrev pub invariant-loop-fields : goal.invariant-loop-fields
invariant-loop-fields l =
    rows_tree l.made ++ map (λ y. (row_tree l.row ++ row_tree l.tail) ++ y) (rows_tree (drop l.fields-index l.fields-items))
    ≡ rows_tree l.fn.made ++ map (λ y. (row_tree l.row ++ row_tree l.tail) ++ y) (rows_tree l.more)
