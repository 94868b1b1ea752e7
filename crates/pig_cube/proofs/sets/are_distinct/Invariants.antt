use Rattle.std.specs.Prelude.{◌↔◌, length}
use Rattle.pig_cube.specs.Dimensions.{AreDistinct}
use Rattle.pig_cube.proofs.sets.are_distinct.Given as goal

-- all are distinct where those that are left are
abbrev pub invariant-loop-left : goal.invariant-loop-left
invariant-loop-left l = AreDistinct l.left ↔ AreDistinct l.positions

abbrev pub decreases-loop-left : goal.decreases-loop-left
decreases-loop-left l = length l.left
