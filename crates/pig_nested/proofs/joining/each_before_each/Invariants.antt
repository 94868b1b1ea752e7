use Rattle.std.proofs.Common.{◌≡◌, ◌++◌, [], ◌∷◌, drop}
use Rattle.pig_value.specs.Trees.{row_tree, rows_tree}
use Rattle.pig_typed.specs.Products.{joined}
use Rattle.pig_nested.proofs.joining.each_before_each.Given as goal

abbrev pub invariant-loop-part : goal.invariant-loop-part
invariant-loop-part l =
    rows_tree l.made ++ joined (joined (rows_tree (drop l.part-index l.part-items)) (row_tree l.tail ∷ [])) (rows_tree l.more)
    ≡ joined (joined (rows_tree l.rows) (row_tree l.tail ∷ [])) (rows_tree l.more)
