use Rattle.std.proofs.Common.{◌≡◌, ◌++◌, length}
use Rattle.pig_prune.proofs.cutting.copy_fields.Given as goal

abbrev pub invariant-loop-left : goal.invariant-loop-left
invariant-loop-left l = l.made ++ l.left ≡ l.kept

abbrev pub decreases-loop-left : goal.decreases-loop-left
decreases-loop-left l = length l.left
