use Rattle.std.proofs.Common.{◌≡◌, ◌++◌, map, length}
use Rattle.pig_cuts.specs.Plans.{behind}
use Rattle.pig_prune.proofs.cutting.add_behind.Given as goal

abbrev pub invariant-loop-left : goal.invariant-loop-left
invariant-loop-left l = l.kept ++ map (behind l.first) l.left ≡ l.initial.kept ++ map (behind l.first) l.fields

abbrev pub decreases-loop-left : goal.decreases-loop-left
decreases-loop-left l = length l.left
