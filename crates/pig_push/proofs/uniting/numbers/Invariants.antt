use Rattle.std.proofs.Common.{◌≡◌, ◌++◌, map, length}
use Rattle.std.specs.Prelude.{Some, slice_get}
use Rattle.std.specs.List.{AllByRecursion}
use Rattle.pig_moves.specs.Pushed.{filtered, place_in}
use Rattle.pig_push.proofs.uniting.numbers.Given as goal

abbrev pub invariant-loop-left : goal.invariant-loop-left
invariant-loop-left l = (l.made ++ map (filtered l.first l.each) l.left ≡ map (filtered l.first l.each) l.inputs)
    × (AllByRecursion (λ n. slice_get l.each (place_in l.each n) ≡ Some n) l.left → AllByRecursion (λ n. slice_get l.each (place_in l.each n) ≡ Some n) l.inputs)

abbrev pub decreases-loop-left : goal.decreases-loop-left
decreases-loop-left l = length l.left
