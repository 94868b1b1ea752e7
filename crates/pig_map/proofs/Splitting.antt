-- The lines of a split, and its piece.
use Rattle.std.specs.Prelude.{◌≡◌, ℕ, zero, suc, List, [], ◌∷◌, length, map, drop, get_or, slice_get, Option, Some, None, unwrap_or, find, refl}
use Rattle.std.specs.Option.{option_and_then, option_map, option_map_or}
use Rattle.std.specs.Str.{bytes_eq}
use Rattle.std.proofs.Common.{ap, ◌∙◌}
use Rattle.pig_value.specs.declared.inputs.Column.{Column}
use Rattle.pig_value.specs.declared.inputs.Input.{Input}
use Rattle.pig_value.specs.Lines.{lines_within}
use Rattle.pig_value.specs.Trees.{Tree}
use Rattle.pig_storage.specs.declared.splits.Split.{Split}
use Rattle.pig_plan.specs.Operators.{pieces_of}
use Rattle.pig_plan.specs.Results.{at_place}
use Rattle.pig_stream.specs.Ranges.{Reading, first_byte, lines_coming, rows_of_lines}
use Rattle.pig_stream.specs.declared.steps.Steps.{Steps}
use Rattle.pig_map.specs.Reading.{HasFedAll, HasLines, IsLong, piece_bytes, rows_coming}

-- a piece as a host has it, and as the plan does
pub same_piece : (inputs : List Input) (path : List ℕ) (piece : ℕ) → piece_bytes path piece inputs ≡ at_place [] (pieces_of inputs path) piece
same_piece inputs path piece = by_input (find (λ input. bytes_eq input.path path) inputs)
  where
    none_there : (k : ℕ) → [] ≡ unwrap_or (slice_get {X = List ℕ} [] k) []
    none_there zero = refl
    none_there (suc k) = refl

    by_input : (o : Option Input)
        → unwrap_or (option_and_then (λ pieces. slice_get pieces piece) (option_map (λ i. i.pieces) o)) []
        ≡ unwrap_or (slice_get (option_map_or (λ i. i.pieces) o []) piece) []
    by_input None = none_there piece
    by_input (Some input) = refl

length_at : (pieces : List (List ℕ)) (k : ℕ) → length (unwrap_or (slice_get pieces k) []) ≡ get_or (map length pieces) k 0
length_at [] zero = refl
length_at [] (suc k) = refl
length_at (piece ∷ pieces) zero = refl
length_at (piece ∷ pieces) (suc k) = length_at pieces k

-- its length
pub piece_long : (inputs : List Input) (path : List ℕ) (piece : ℕ) (lengths : List ℕ) → map length (pieces_of inputs path) ≡ lengths
    → IsLong path piece (get_or lengths piece 0) inputs
piece_long inputs path piece lengths are =
    ap length (same_piece inputs path piece) ∙ length_at (pieces_of inputs path) piece ∙ ap (λ ls. get_or ls piece 0) are

-- what came of a window that was begun for a split
pub split_taken : (told : Option (List Input)) (path : List ℕ) (split : Split) (columns : List Column) (delim : ℕ)
    (window : Reading) (piece at : ℕ) (s t : Steps) (after : List (List Tree) → Type 0) (count : ℕ)
    → ((bytes : List ℕ) → lines_coming window (drop (first_byte split.from) bytes) ≡ lines_within split.from split.to bytes)
    → piece ≡ split.piece → at ≡ first_byte split.from
    → HasFedAll told path piece at (rows_coming columns delim window) s t after count
    → HasLines told path split columns delim s t after count
split_taken told path split columns delim window piece at s t after count begun number first h = record {
  lines = lines_coming window h.given;
  all = h.all;
  told_lines = λ inputs is.
      h.bytes inputs is
      ∙ ap (rows_of_lines columns delim)
      (ap (λ n. lines_coming window (drop n (piece_bytes path piece inputs))) first
      ∙ begun (piece_bytes path piece inputs)
      ∙ ap (lines_within split.from split.to) (same_piece inputs path piece ∙ ap (at_place [] (pieces_of inputs path)) number));
}
