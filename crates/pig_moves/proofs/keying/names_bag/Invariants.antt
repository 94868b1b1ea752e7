use Rattle.std.proofs.Common.{◌≡◌, length}
use Rattle.pig_moves.specs.Pushed.{names_bag}
use Rattle.pig_moves.proofs.keying.names_bag.Given as goal

abbrev pub invariant-loop-left : goal.invariant-loop-left
invariant-loop-left l = names_bag l.left ≡ names_bag l.fields

abbrev pub decreases-loop-left : goal.decreases-loop-left
decreases-loop-left l = length l.left
