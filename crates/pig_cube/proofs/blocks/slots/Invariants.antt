use Rattle.std.specs.Prelude.{◌≡◌, map, take}
use Rattle.pig_typed.specs.Typed.{typed}
use Rattle.pig_cube.specs.Expanding.{slot}
use Rattle.pig_cube.proofs.blocks.slots.Given as goal

-- the dimensions so far
abbrev pub invariant-loop-position : goal.invariant-loop-position
invariant-loop-position l = map typed l.slots ≡ map (slot l.set) (take l.position-index l.position-items)
