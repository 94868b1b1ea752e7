-- The rows so far, and those that are to come.
use Rattle.std.proofs.Common.{◌≡◌, ◌++◌, map, drop, length}
use Rattle.pig_value.specs.Trees.{row_tree, rows_tree}
use Rattle.pig_typed.specs.Products.{joined, product}
use Rattle.pig_operators.proofs.Products.{behind_fields}
use Rattle.pig_operators.proofs.joining.+add_products.Given as goal

abbrev pub decreases-add_products : goal.decreases-add_products
decreases-add_products l = length l.parts.now

abbrev pub invariant-loop-row : goal.invariant-loop-row
invariant-loop-row l =
    rows_tree l.rows ++ behind_fields (row_tree l.fn.front) (joined (rows_tree (drop l.row-index l.row-items)) (product (map rows_tree l.rest)))
    ≡ rows_tree l.fn.rows ++ behind_fields (row_tree l.fn.front) (joined (rows_tree l.row-items) (product (map rows_tree l.rest)))
