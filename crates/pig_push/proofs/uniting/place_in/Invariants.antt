use Rattle.std.proofs.Common.{◌≡◌, ◌+◌, length}
use Rattle.pig_moves.specs.Pushed.{place_in}
use Rattle.pig_push.proofs.uniting.place_in.Given as goal

abbrev pub invariant-loop-left : goal.invariant-loop-left
invariant-loop-left l = (l.place + place_in l.left l.n ≡ place_in l.numbers l.n) × (l.place + length l.left ≡ length l.numbers)

abbrev pub decreases-loop-left : goal.decreases-loop-left
decreases-loop-left l = length l.left
