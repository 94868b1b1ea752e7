use Rattle.std.proofs.Common.{◌≡◌, ◌++◌, map, drop}
use Rattle.pig_value.specs.FieldRows.{row_of}
use Rattle.pig_value.specs.Trees.{tree}
use Rattle.pig_storage.specs.Pieces.{IsPiece}
use Rattle.pig_storage.proofs.rows.read_columns.Given as goal

abbrev pub invariant-loop-column : goal.invariant-loop-column
invariant-loop-column l = IsPiece l.byte l.line l.piece × (map tree l.row.items ++ row_of (drop l.column-index l.columns) l.byte l.line ≡ row_of l.columns l.byte l.line)
