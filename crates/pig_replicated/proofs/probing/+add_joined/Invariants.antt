-- The joinings so far, and those that are to come.
use Rattle.std.proofs.Common.{◌≡◌, ◌++◌, drop, length, map}
use Rattle.pig_value.specs.Trees.{row_tree, rows_tree, tree}
use Rattle.pig_typed.specs.Products.{joined, product}
use Rattle.pig_replicated.specs.Holding.{matches_in}
use Rattle.pig_replicated.proofs.Adding.{behind}
use Rattle.pig_replicated.proofs.probing.+add_joined.Given as goal

abbrev pub decreases-add_joined : goal.decreases-add_joined
decreases-add_joined l = length l.sides.now

abbrev pub invariant-loop-row : goal.invariant-loop-row
invariant-loop-row l =
    rows_tree l.rows ++ behind (row_tree l.fn.front) (joined (rows_tree (drop l.row-index l.row-items)) (product (map (λ s. matches_in s (tree l.key)) l.rest)))
    ≡ rows_tree l.fn.rows ++ behind (row_tree l.fn.front) (joined (rows_tree l.row-items) (product (map (λ s. matches_in s (tree l.key)) l.rest)))
