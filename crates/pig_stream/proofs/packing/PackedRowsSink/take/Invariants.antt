use Rattle.std.proofs.Common.{◌≡◌, ◌++◌, drop}
use Rattle.pig_value.specs.Trees.{rows_tree}
use Rattle.pig_value.specs.Valid.{AreRows}
use Rattle.pig_stream.proofs.packing.PackedRowsSink.take.Given as goal

abbrev pub invariant-loop-row : goal.invariant-loop-row
invariant-loop-row l = (l.self ++ rows_tree (drop l.row-index l.rows) ≡ l.fn.self ++ rows_tree l.rows) × AreRows (rows_tree (drop l.row-index l.rows))
