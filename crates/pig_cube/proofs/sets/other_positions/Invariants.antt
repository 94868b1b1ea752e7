use Rattle.std.specs.Prelude.{◌≡◌}
use Rattle.pig_cube.specs.Dimensions.{other_positions}
use Rattle.pig_cube.proofs.sets.other_positions.Given as goal

-- the other positions so far
abbrev pub invariant-loop-position : goal.invariant-loop-position
invariant-loop-position l = l.others ≡ other_positions l.dims l.position
