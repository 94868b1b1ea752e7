use Rattle.std.proofs.Common.{◌≡◌, ℕ, ◌<◌, length}
use Rattle.std.specs.Slots.{slots_items}
use Rattle.pig_board.specs.End.{end_of, end_in}
use Rattle.pig_board.proofs.board.Board.close.Given as goal

abbrev pub invariant-loop-t : goal.invariant-loop-t
invariant-loop-t l = record { length_is : length l.ends.items ≡ l.tasks; each : (k : ℕ) → k < l.t → end_of l.ends.items k ≡ end_in (slots_items l.closed.words) k }
