use Rattle.std.proofs.Common.{◌≡◌}
use Rattle.pig_storage.specs.Pieces.{IsPiece}
use Rattle.pig_storage.proofs.rows.piece_onwards.Given as goal

abbrev pub invariant-loop-next : goal.invariant-loop-next
invariant-loop-next l = IsPiece l.byte l.line l.piece × (l.piece.position ≡ l.next)
