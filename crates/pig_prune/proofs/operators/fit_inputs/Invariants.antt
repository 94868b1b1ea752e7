use Rattle.std.proofs.Common.{◌≡◌, ◌++◌, map, length}
use Rattle.pig_plan.specs.Plans.{keyed_of}
use Rattle.pig_cuts.specs.Cuts.{cut_at}
use Rattle.pig_cuts.specs.Plans.{fit_keyed}
use Rattle.pig_prune.proofs.operators.fit_inputs.Given as goal

abbrev pub invariant-loop-left : goal.invariant-loop-left
invariant-loop-left l = map keyed_of l.made ++ map (fit_keyed (cut_at l.cuts)) (map keyed_of l.left) ≡ map (fit_keyed (cut_at l.cuts)) (map keyed_of l.inputs)

abbrev pub decreases-loop-left : goal.decreases-loop-left
decreases-loop-left l = length l.left
