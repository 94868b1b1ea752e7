use Rattle.std.specs.Prelude.{◌≡◌, map, take}
use Rattle.pig_typed.specs.Typed.{item_typed}
use Rattle.pig_cube.specs.Expanding.{plain_item}
use Rattle.pig_cube.proofs.blocks.plain_items.Given as goal

-- the other fields so far
abbrev pub invariant-loop-position : goal.invariant-loop-position
invariant-loop-position l = map item_typed l.items ≡ map plain_item (take l.position-index l.position-items)
