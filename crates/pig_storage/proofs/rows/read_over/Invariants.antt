use Rattle.std.proofs.Common.{◌≡◌, ◌++◌, length, map, take, drop}
use Rattle.pig_value.specs.FieldRows.{row_of}
use Rattle.pig_value.specs.Trees.{tree}
use Rattle.pig_storage.specs.Pieces.{IsPiece}
use Rattle.pig_storage.proofs.rows.read_over.Given as goal

abbrev pub invariant-loop-at : goal.invariant-loop-at
invariant-loop-at l = IsPiece l.byte l.line l.piece × (length l.row ≡ length l.columns) × (map tree (take l.at l.row) ++ row_of (drop l.at l.columns) l.byte l.line ≡ row_of l.columns l.byte l.line)
