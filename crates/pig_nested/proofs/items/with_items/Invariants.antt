use Rattle.std.proofs.Common.{◌≡◌, map, drop}
use Rattle.pig_value.specs.Trees.{row_tree}
use Rattle.pig_typed.specs.Blocks.{item_lists}
use Rattle.pig_typed.specs.Typed.{item_typed}
use Rattle.pig_nested.specs.Joinings.{joined_on, joining_rows}
use Rattle.pig_nested.proofs.items.with_items.Given as goal

abbrev pub invariant-loop-item : goal.invariant-loop-item
invariant-loop-item l =
    joined_on (joining_rows l.so_far) (map (λ item. item_lists item (row_tree l.row) (row_tree l.locals)) (map item_typed (drop l.item-index l.items)))
    ≡ joined_on (joining_rows l.fn.begun) (map (λ item. item_lists item (row_tree l.row) (row_tree l.locals)) (map item_typed l.items))
