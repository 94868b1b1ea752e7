use Rattle.std.proofs.Common.{◌≡◌, ◌++◌, length}
use Rattle.std.specs.Str.{IsUtf8}
use Rattle.pig_builtins.specs.Parts.{piece_rows}
use Rattle.pig_stream.specs.WordRows.{pieces, texts_rows}
use Rattle.pig_stream.proofs.words.cut_words.Given as goal

abbrev pub invariant-loop-word : goal.invariant-loop-word
invariant-loop-word l = record {
  so_far : texts_rows l.words.items ++ piece_rows (pieces l.rest) ≡ texts_rows l.fn.words.items ++ piece_rows (pieces l.fn.text);
  utf8 : IsUtf8 l.rest;
}

abbrev pub decreases-loop-word : goal.decreases-loop-word
decreases-loop-word l = length l.rest
