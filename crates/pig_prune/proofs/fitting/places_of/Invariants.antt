use Rattle.std.proofs.Common.{◌≡◌, ◌++◌, map, length}
use Rattle.pig_cuts.specs.Cuts.{cut_at, place_of}
use Rattle.pig_prune.proofs.fitting.places_of.Given as goal

abbrev pub invariant-loop-left : goal.invariant-loop-left
invariant-loop-left l = l.made ++ map (place_of (cut_at l.cuts l.node)) l.left ≡ map (place_of (cut_at l.cuts l.node)) l.columns

abbrev pub decreases-loop-left : goal.decreases-loop-left
decreases-loop-left l = length l.left
