use Rattle.std.proofs.Common.{◌≡◌, ◌++◌, drop}
use Rattle.pig_value.specs.Texts.{rows_text}
use Rattle.pig_value.specs.Trees.{rows_tree}
use Rattle.pig_stream.proofs.text.StoredTextSink.take.Given as goal

abbrev pub invariant-loop-row : goal.invariant-loop-row
invariant-loop-row l =
    (l.self.bytes.items ++ rows_text l.self.delim (rows_tree (drop l.row-index l.rows)) ≡ l.fn.self.bytes.items ++ rows_text l.fn.self.delim (rows_tree l.rows))
    × (l.self.delim ≡ l.fn.self.delim)
