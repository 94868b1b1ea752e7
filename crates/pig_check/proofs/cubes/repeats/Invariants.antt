use Rattle.std.specs.Prelude.{◌≡◌, length}
use Rattle.pig_check.specs.Cubes.{repeats}
use Rattle.pig_check.proofs.cubes.repeats.Given as goal

abbrev pub invariant-loop-left : goal.invariant-loop-left
invariant-loop-left l = repeats l.left ≡ repeats l.positions

abbrev pub decreases-loop-left : goal.decreases-loop-left
decreases-loop-left l = length l.left
