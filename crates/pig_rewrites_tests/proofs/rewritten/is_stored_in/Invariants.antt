use Rattle.std.proofs.Common.{◌≡◌, length}
use Rattle.pig_rewrites.specs.Alike.{is_stored_in}
use Rattle.pig_rewrites_tests.proofs.rewritten.is_stored_in.Given as goal

abbrev pub invariant-loop-left : goal.invariant-loop-left
invariant-loop-left l = is_stored_in l.dir l.left ≡ is_stored_in l.dir l.stores

abbrev pub decreases-loop-left : goal.decreases-loop-left
decreases-loop-left l = length l.left
