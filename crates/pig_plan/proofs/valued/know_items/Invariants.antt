use Rattle.std.proofs.Common.{map, drop}
use Rattle.std.specs.List.{AllByRecursion}
use Rattle.pig_typed.specs.Literals.{LiteralsAre}
use Rattle.pig_typed.specs.Typed.{item_typed}
use Rattle.pig_value.specs.Valid.{IsValue}
use Rattle.pig_plan.proofs.valued.know_items.Given as goal

abbrev pub invariant-loop-item : goal.invariant-loop-item
invariant-loop-item l = AllByRecursion (λ item. LiteralsAre IsValue item.value) (map item_typed (drop l.item-index l.items)) → AllByRecursion (λ item. LiteralsAre IsValue item.value) (map item_typed l.items)
