use Rattle.std.proofs.Common.{◌≡◌, ◌++◌, map, length}
use Rattle.pig_typed.specs.Typed.{step_typed}
use Rattle.pig_cuts.specs.Cuts.{cut_at}
use Rattle.pig_cuts.specs.Fits.{fit_step}
use Rattle.pig_prune.proofs.operators.fit_steps.Given as goal

abbrev pub invariant-loop-left : goal.invariant-loop-left
invariant-loop-left l = map step_typed l.made ++ map (fit_step (cut_at l.cuts) (cut_at l.cuts l.node)) (map step_typed l.left) ≡ map (fit_step (cut_at l.cuts) (cut_at l.cuts l.node)) (map step_typed l.steps)

abbrev pub decreases-loop-left : goal.decreases-loop-left
decreases-loop-left l = length l.left
