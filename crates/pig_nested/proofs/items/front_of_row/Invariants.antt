use Rattle.std.proofs.Common.{◌≡◌, map, take}
use Rattle.pig_value.specs.Trees.{row_tree}
use Rattle.pig_typed.specs.Typed.{item_typed}
use Rattle.pig_nested.specs.Joinings.{plain_fields}
use Rattle.pig_nested.proofs.items.front_of_row.Given as goal

abbrev pub invariant-loop-item : goal.invariant-loop-item
invariant-loop-item l = row_tree l.made.items ≡ plain_fields (map item_typed (take l.item-index l.items)) (row_tree l.row) (row_tree l.locals)
