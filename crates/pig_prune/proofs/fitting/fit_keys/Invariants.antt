use Rattle.std.proofs.Common.{◌≡◌, ◌++◌, map, length}
use Rattle.pig_typed.specs.Typed.{typed}
use Rattle.pig_cuts.specs.Cuts.{cut_at}
use Rattle.pig_cuts.specs.Fits.{fit}
use Rattle.pig_prune.proofs.fitting.fit_keys.Given as goal

abbrev pub invariant-loop-left : goal.invariant-loop-left
invariant-loop-left l = map typed l.made ++ map (fit (cut_at l.cuts) (cut_at l.cuts l.node)) (map typed l.left) ≡ map (fit (cut_at l.cuts) (cut_at l.cuts l.node)) (map typed l.keys)

abbrev pub decreases-loop-left : goal.decreases-loop-left
decreases-loop-left l = length l.left
