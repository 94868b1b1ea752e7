use Rattle.std.proofs.Common.{◌≡◌, ◌++◌, drop}
use Rattle.pig_value.specs.Trees.{rows_tree}
use Rattle.pig_stream.specs.WordRows.{rows_words}
use Rattle.pig_stream.proofs.buffer.Buffer.put_words.Given as goal

abbrev pub invariant-loop-row : goal.invariant-loop-row
invariant-loop-row l = l.self ++ rows_words l.field (rows_tree (drop l.row-index l.rows)) ≡ rows_words l.field (rows_tree l.rows)
