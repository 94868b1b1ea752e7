use Rattle.std.proofs.Common.{take}
use Rattle.pig_value.specs.Trees.{rows_tree}
use Rattle.pig_stream.specs.Taking.{HasFirst}
use Rattle.pig_stream.proofs.first.FirstRowsSink.take.Given as goal

abbrev pub invariant-loop-at : goal.invariant-loop-at
invariant-loop-at l = HasFirst (rows_tree l.fn.self.rows) l.fn.self.limit (rows_tree (take l.at l.rows)) (rows_tree l.self.rows) l.self.limit
