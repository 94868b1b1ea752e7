use Rattle.std.proofs.Common.{◌≡◌, length, true}
use Rattle.pig_rewrites.specs.Alike.{are_apart}
use Rattle.pig_rewrites_tests.proofs.rewritten.are_apart.Given as goal

abbrev pub invariant-loop-left : goal.invariant-loop-left
invariant-loop-left l = are_apart l.left ≡ true → are_apart l.stores ≡ true

abbrev pub decreases-loop-left : goal.decreases-loop-left
decreases-loop-left l = length l.left
