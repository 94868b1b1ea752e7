use Rattle.std.proofs.Common.{◌≡◌, ◌++◌}
use Rattle.pig_value.specs.Texts.{rows_text}
use Rattle.pig_packed_text.specs.SeenTexts.{placed}
use Rattle.pig_packed_text.proofs.Lines.{left_from}
use Rattle.pig_packed_text.proofs.writing.packed_text.Given as goal

abbrev pub invariant-loop-at : goal.invariant-loop-at
invariant-loop-at l = l.text.items ++ left_from l.delim l.places l.rows l.at ≡ rows_text l.delim (placed l.places l.rows)
