use Rattle.std.proofs.Common.{◌≡◌, ◌++◌, drop}
use Rattle.pig_stream.specs.WordRows.{texts_rows}
use Rattle.pig_stream.proofs.buffer.Buffer.push_texts.Given as goal

abbrev pub invariant-loop-text : goal.invariant-loop-text
invariant-loop-text l = l.self ++ texts_rows (drop l.text-index l.texts) ≡ l.fn.self ++ texts_rows l.texts
