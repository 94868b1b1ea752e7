-- The texts of rows, each with an LF behind it, are their own lines.
use Rattle.std.proofs.Common.{◌≡◌, ◌≢◌, ℕ, Bool, true, false, List, [], ◌∷◌, ◌++◌, map, refl, sym, ◌∙◌, ap}
use Rattle.std.specs.List.{slice_split}
use Rattle.std.proofs.lemmas.Bool.Decides.{Decides-eqb}
use Rattle.std.proofs.lemmas.List.{append_assoc, append-nil}
use Rattle.std.proofs.lemmas.List.Elements.{All-head, All-tail, All-weaker}
use Rattle.std.proofs.lemmas.List.Splits.{slice_split_at}
use Rattle.pig_value.specs.declared.inputs.Column.{Column}
use Rattle.pig_value.specs.FieldRows.{row_of}
use Rattle.pig_value.specs.Lines.{is_lf, stored_lines, without_last_empty}
use Rattle.pig_value.specs.Texts.{AreLineFreeRows, HasNoLf, IsLineFreeRow, row_text, rows_text}
use Rattle.pig_value.specs.Trees.{Tree}
use Rattle.pig_storage.proofs.FirstLine.{cut_leaves, stays_before}
use Rattle.pig_storage.proofs.LineFree.{row_free, row_text_free}

-- a test of a byte other than LF fails
no_lf : (b : ℕ) → b ≢ 10 → is_lf b ≡ false
no_lf b other = by_test (is_lf b) refl
  where
    by_test : (t : Bool) → is_lf b ≡ t → is_lf b ≡ false
    by_test true e = absurd (other ((Decides-eqb b 10).0 e))
    by_test false e = e

-- a line and its LF are the first stored line
pub stored_line : (line rest : List ℕ) → HasNoLf line → stored_lines ((line ++ 10 ∷ []) ++ rest) ≡ line ∷ stored_lines rest
stored_line line rest free =
    let cut : slice_split is_lf (line ++ 10 ∷ rest) ≡ line ∷ slice_split is_lf rest = slice_split_at is_lf line 10 rest (All-weaker (λ b. b ≢ 10) (λ b. is_lf b ≡ false) no_lf line free) refl in
    ap stored_lines (append_assoc line (10 ∷ []) rest) ∙ (ap without_last_empty cut ∙ stays_before line (slice_split is_lf rest) (cut_leaves rest))

-- the texts of line-free rows are stored as they are
pub rows_stored : (d : ℕ) → d ≢ 10 → (rows : List (List Tree)) → AreLineFreeRows rows → stored_lines (rows_text d rows) ≡ map (row_text d) rows
rows_stored d other [] free = refl
rows_stored d other (row ∷ rows) free =
    let here : HasNoLf (row_text d row) = row_text_free d other row (All-head IsLineFreeRow row rows free) in
    stored_line (row_text d row) (rows_text d rows) here ∙ ap (λ l. row_text d row ∷ l) (rows_stored d other rows (All-tail IsLineFreeRow row rows free))

-- so the text of the row of a line is one line
pub row_is_one_line : (columns : List Column) (from to : ℕ) (line : List ℕ) → to ≢ 10 → HasNoLf line → stored_lines (row_text to (row_of columns from line) ++ 10 ∷ []) ≡ row_text to (row_of columns from line) ∷ []
row_is_one_line columns from to line other free =
    let text : List ℕ = row_text to (row_of columns from line) in
    ap stored_lines (sym (append-nil (text ++ 10 ∷ []))) ∙ stored_line text [] (row_text_free to other (row_of columns from line) (row_free columns from line free))
