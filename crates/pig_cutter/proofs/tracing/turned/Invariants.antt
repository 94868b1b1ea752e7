use Rattle.std.proofs.Common.{◌≡◌, ◌++◌, length, reverse}
use Rattle.pig_cutter.proofs.tracing.turned.Given as goal

abbrev pub invariant-loop-left : goal.invariant-loop-left
invariant-loop-left l = l.found ++ reverse l.left ≡ reverse l.numbers

abbrev pub decreases-loop-left : goal.decreases-loop-left
decreases-loop-left l = length l.left
