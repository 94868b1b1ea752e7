use Rattle.std.specs.Prelude.{◌≡◌, map, take}
use Rattle.pig_typed.specs.Typed.{typed}
use Rattle.pig_cube.specs.Expanding.{set_tuple}
use Rattle.pig_cube.proofs.blocks.tuples.Given as goal

-- the sets so far
abbrev pub invariant-loop-set : goal.invariant-loop-set
invariant-loop-set l = map typed l.tuples ≡ map (set_tuple l.dims) (take l.set-index l.set-items)
