use Rattle.std.proofs.Common.{◌≡◌, ℕ, ◌<◌, true}
use Rattle.std.specs.Prelude.{is_some}
use Rattle.pig_board.specs.End.{end_of}
use Rattle.pig_pool.proofs.wave.is_won.Given as goal

abbrev pub invariant-loop-t : goal.invariant-loop-t
invariant-loop-t l = (k : ℕ) → k < l.t → is_some (end_of l.end k).winner ≡ true
