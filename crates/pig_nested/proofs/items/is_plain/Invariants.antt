use Rattle.std.proofs.Common.{◌≡◌, map, drop}
use Rattle.pig_typed.specs.Typed.{item_typed}
use Rattle.pig_nested.specs.Joinings.{are_plain}
use Rattle.pig_nested.proofs.items.is_plain.Given as goal

abbrev pub invariant-loop-item : goal.invariant-loop-item
invariant-loop-item l = are_plain (map item_typed (drop l.item-index l.item-items)) ≡ are_plain (map item_typed l.items)
