use Rattle.std.proofs.Common.{◌≡◌, ◌++◌, ◌-◌, map}
use Rattle.pig_typed.specs.Typed.{item_typed}
use Rattle.pig_typing.specs.Calls.{fields_from}
use Rattle.pig_typing.specs.Parts.{plain_item}
use Rattle.pig_items.proofs.items.field_items.Given as goal

abbrev pub invariant-loop-place : goal.invariant-loop-place
invariant-loop-place l = map item_typed l.items ++ map plain_item (fields_from l.place (l.count - l.place)) ≡ map plain_item (fields_from 0 l.count)
