use Rattle.std.proofs.Common.{◌≡◌, ◌++◌, length}
use Rattle.pig_cuts.specs.Plans.{staying}
use Rattle.pig_prune.proofs.staying.staying_columns.Given as goal

abbrev pub invariant-loop-left : goal.invariant-loop-left
invariant-loop-left l = l.made ++ staying l.marked l.left ≡ staying l.marks l.columns

abbrev pub decreases-loop-left : goal.decreases-loop-left
decreases-loop-left l = length l.left
