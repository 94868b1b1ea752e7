-- The joinings of the items from left to right.
use Rattle.std.specs.Prelude.{Bool, not, List, [], ◌∷◌, map}
use Rattle.std.specs.List.{list_all}
use Rattle.pig_value.specs.Trees.{row_tree, rows_tree, Tree}
use Rattle.pig_typed.specs.Blocks.{item_lists}
use Rattle.pig_typed.specs.Evaluation.{ev}
use Rattle.pig_typed.specs.Products.{joined}
use Rattle.pig_typed.specs.Typed.{TypedItem}
use Rattle.pig_nested.specs.declared.joining.Joining.{Joining}

-- the joinings of parts behind what was joined so far
abbrev pub joined_on : {X : Type 0} → List (List X) → List (List (List X)) → List (List X)
joined_on rows [] = rows
joined_on rows (part ∷ parts) = joined_on (joined rows part) parts

-- rows that all go on with the same fields
abbrev pub joining_rows : Joining → List (List Tree)
joining_rows j = joined (rows_tree j.rows) (row_tree j.tail ∷ [])

-- the lists that each of the items gives on a row and the values of the steps
abbrev pub parts_of_items : List TypedItem → List Tree → List Tree → List (List (List Tree))
parts_of_items items row locals = map (λ item. item_lists item row locals) items

-- whether no item is flattened
abbrev pub are_plain : List TypedItem → Bool
are_plain items = list_all (λ item. not item.flatten) items

-- the row of plain items
abbrev pub plain_fields : List TypedItem → List Tree → List Tree → List Tree
plain_fields items row locals = map (λ item. ev item.value row locals) items
