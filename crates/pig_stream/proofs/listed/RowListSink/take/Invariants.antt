use Rattle.std.proofs.Common.{◌≡◌, ◌++◌, drop}
use Rattle.pig_value.specs.Trees.{rows_tree}
use Rattle.pig_stream.proofs.listed.RowListSink.take.Given as goal

abbrev pub invariant-loop-row : goal.invariant-loop-row
invariant-loop-row l = rows_tree l.self.rows ++ rows_tree (drop l.row-index l.rows) ≡ rows_tree l.fn.self.rows ++ rows_tree l.rows
