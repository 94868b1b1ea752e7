use Rattle.std.specs.Prelude.{◌≡◌, length}
use Rattle.pig_cube.specs.Dimensions.{is_in}
use Rattle.pig_cube.proofs.sets.is_in.Given as goal

-- it stands among all where it stands among those that are left
abbrev pub invariant-loop-left : goal.invariant-loop-left
invariant-loop-left l = is_in l.left l.position ≡ is_in l.positions l.position

abbrev pub decreases-loop-left : goal.decreases-loop-left
decreases-loop-left l = length l.left
