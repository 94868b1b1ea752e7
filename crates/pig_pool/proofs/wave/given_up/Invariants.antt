use Rattle.std.proofs.Common.{ℕ, ◌<◌}
use Rattle.pig_board.specs.End.{end_of}
use Rattle.pig_pool.proofs.wave.given_up.Given as goal

abbrev pub invariant-loop-t : goal.invariant-loop-t
invariant-loop-t l = (k : ℕ) → k < l.t → (end_of l.end k).failed < l.limit
