-- The rows so far, and those that are to come.
use Rattle.std.proofs.Common.{◌≡◌, ◌++◌, [], List, map, length}
use Rattle.pig_value.specs.Trees.{Tree}
use Rattle.pig_typed.specs.Products.{joined, product}
use Rattle.pig_operators.specs.Groups.{rows_at}
use Rattle.pig_operators.proofs.Products.{behind_fields}
use Rattle.pig_gather.specs.Fields.{Begins}
use Rattle.pig_gather.specs.Spans.{rows_in}
use Rattle.pig_gather.proofs.joining.+add_products.Given as goal

abbrev pub decreases-add_products : goal.decreases-add_products
decreases-add_products l = length l.parts.now

abbrev pub invariant-loop-at : goal.invariant-loop-at
invariant-loop-at l =
    (l.front.items ≡ l.fn.front.items)
    × (l.built.begun ≡ [])
    × ((fields : List Tree) → Begins l.fn.front.items fields
    → l.built.rows ++ behind_fields fields (joined (rows_at l.entries l.at l.at-end) (product (map (rows_in l.entries) l.rest)))
    ≡ l.fn.built.rows ++ behind_fields fields (joined (rows_at l.entries l.initial.at l.at-end) (product (map (rows_in l.entries) l.rest))))
