use Rattle.std.proofs.Common.{◌≡◌, ◌++◌, length}
use Rattle.pig_cuts.specs.Cuts.{cut_at}
use Rattle.pig_cuts.specs.Plans.{bags_kept}
use Rattle.pig_prune.proofs.cutting.add_bags.Given as goal

abbrev pub invariant-loop-left : goal.invariant-loop-left
invariant-loop-left l = l.kept ++ bags_kept (cut_at l.cuts) l.position l.left ≡ l.initial.kept ++ bags_kept (cut_at l.cuts) 1 l.inputs

abbrev pub decreases-loop-left : goal.decreases-loop-left
decreases-loop-left l = length l.left
