use Rattle.std.proofs.Common.{◌≡◌, length}
use Rattle.pig_cuts.specs.Cuts.{cut_at}
use Rattle.pig_cuts.specs.Plans.{are_whole}
use Rattle.pig_prune.proofs.finding.are_whole.Given as goal

abbrev pub invariant-loop-left : goal.invariant-loop-left
invariant-loop-left l = are_whole (cut_at l.cuts) l.left ≡ are_whole (cut_at l.cuts) l.nodes

abbrev pub decreases-loop-left : goal.decreases-loop-left
decreases-loop-left l = length l.left
