use Rattle.std.proofs.Common.{◌≡◌, length}
use Rattle.pig_cuts.specs.Plans.{all_stay}
use Rattle.pig_prune.proofs.staying.all_stay.Given as goal

abbrev pub invariant-loop-left : goal.invariant-loop-left
invariant-loop-left l = all_stay l.left ≡ all_stay l.marks

abbrev pub decreases-loop-left : goal.decreases-loop-left
decreases-loop-left l = length l.left
