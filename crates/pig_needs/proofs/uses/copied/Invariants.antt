use Rattle.std.proofs.Common.{◌≡◌, ◌++◌, length}
use Rattle.pig_needs.proofs.uses.copied.Given as goal

abbrev pub invariant-loop-left : goal.invariant-loop-left
invariant-loop-left l = l.found ++ l.left ≡ l.own

abbrev pub decreases-loop-left : goal.decreases-loop-left
decreases-loop-left l = length l.left
