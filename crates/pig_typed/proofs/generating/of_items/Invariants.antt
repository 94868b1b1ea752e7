use Rattle.std.proofs.Common.{◌≡◌, ◌++◌, map, drop}
use Rattle.std.specs.Option.{option_map}
use Rattle.pig_value.specs.Trees.{kind_tree}
use Rattle.pig_typed.specs.BlockKinds.{items_kinds}
use Rattle.pig_typed.specs.Typed.{item_typed}
use Rattle.pig_typed.proofs.generating.of_items.Given as goal

abbrev pub invariant-loop-item : goal.invariant-loop-item
invariant-loop-item l =
    option_map (λ more. map kind_tree l.made ++ more) (items_kinds (map item_typed (drop l.item-index l.item-items)) (map kind_tree l.row) (map kind_tree l.locals))
    ≡ items_kinds (map item_typed l.fn.items) (map kind_tree l.row) (map kind_tree l.locals)
