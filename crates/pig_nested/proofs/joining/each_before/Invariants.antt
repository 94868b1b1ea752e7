use Rattle.std.proofs.Common.{◌≡◌, [], ◌∷◌}
use Rattle.pig_value.specs.Trees.{row_tree, rows_tree}
use Rattle.pig_typed.specs.Products.{joined}
use Rattle.pig_nested.proofs.joining.each_before.Given as goal

abbrev pub invariant-loop-row : goal.invariant-loop-row
invariant-loop-row l = rows_tree l.made ≡ joined (rows_tree l.yielded) (row_tree l.tail ∷ [])
