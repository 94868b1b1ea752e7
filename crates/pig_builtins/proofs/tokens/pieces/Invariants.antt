use Rattle.std.proofs.Common.{◌≡◌, ◌++◌, length}
use Rattle.std.specs.List.{slice_split}
use Rattle.std.specs.Str.{IsUtf8}
use Rattle.pig_value.specs.Functions.{is_separator}
use Rattle.pig_value.specs.Trees.{rows_tree}
use Rattle.pig_builtins.specs.Parts.{piece_rows}
use Rattle.pig_builtins.proofs.tokens.pieces.Given as goal

abbrev pub invariant-loop-piece : goal.invariant-loop-piece
invariant-loop-piece l = record {
  so_far : rows_tree l.rows ++ piece_rows (slice_split is_separator l.rest) ≡ piece_rows (slice_split is_separator l.fn.text);
  utf8 : IsUtf8 l.rest;
}

abbrev pub decreases-loop-piece : goal.decreases-loop-piece
decreases-loop-piece l = length l.rest
