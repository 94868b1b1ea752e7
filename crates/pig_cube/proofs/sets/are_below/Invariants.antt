use Rattle.std.specs.Prelude.{◌<◌, ◌↔◌, length}
use Rattle.std.specs.List.{AllByRecursion}
use Rattle.pig_cube.proofs.sets.are_below.Given as goal

-- all are below where those that are left are
abbrev pub invariant-loop-left : goal.invariant-loop-left
invariant-loop-left l = AllByRecursion (λ p. p < l.width) l.left ↔ AllByRecursion (λ p. p < l.width) l.positions

abbrev pub decreases-loop-left : goal.decreases-loop-left
decreases-loop-left l = length l.left
