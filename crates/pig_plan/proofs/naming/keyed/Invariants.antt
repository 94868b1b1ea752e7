use Rattle.std.proofs.Common.{◌≡◌, ◌++◌, map, length}
use Rattle.pig_plan.specs.Plans.{keyed_of}
use Rattle.pig_plan.proofs.naming.keyed.Given as goal

abbrev pub invariant-loop-left : goal.invariant-loop-left
invariant-loop-left l = l.numbers ++ map (λ i. i.input) (map keyed_of l.left) ≡ map (λ i. i.input) (map keyed_of l.inputs)

abbrev pub decreases-loop-left : goal.decreases-loop-left
decreases-loop-left l = length l.left
