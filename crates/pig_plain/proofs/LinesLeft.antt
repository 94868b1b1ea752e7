-- The lines that are left behind a line that was read.
use Rattle.std.specs.Prelude.{◌≡◌, ◌-◌, ℕ, List, [], ◌∷◌, ◌++◌, drop, length, map, take}
use Rattle.std.proofs.Common.{ap, arith, sym, ◌∙◌}
use Rattle.std.proofs.lemmas.List.{append_assoc, length-drop, map-append, take_all}
use Rattle.pig_storage.specs.NextLine.{IsNextLine}
use Rattle.pig_storage.specs.declared.lines.Span.{Span}
use Rattle.pig_value.specs.FieldRows.{row_of}
use Rattle.pig_value.specs.Lines.{lines}
use Rattle.pig_value.specs.declared.values.Value.{Value}
use Rattle.pig_value.specs.Trees.{Tree, row_tree, rows_tree}
use Rattle.pig_plain.specs.Coming.{lines_left, rows_left}
use Rattle.pig_plain.specs.declared.reading.Lines.{Lines}

pub line_read : (piece : List ℕ) (behind : List (List ℕ)) (s : Span) → IsNextLine piece 0 s
    → lines piece ++ behind ≡ take (s.to - s.from) (drop s.from piece) ∷ (lines (take (length piece - s.next) (drop s.next piece)) ++ behind)
line_read piece behind s h =
    let rest : take (length piece - s.next) (drop s.next piece) ≡ drop s.next piece =
    take_all (length piece - s.next) (drop s.next piece) (let e = length-drop s.next piece in omega (arith, e)) in
    ap (λ ls. ls ++ behind) h.is
    ∙ (λ i. take (s.to - (sym h.starts) i) (drop ((sym h.starts) i) piece) ∷ (lines (drop s.next piece) ++ behind))
    ∙ ap (λ left. take (s.to - s.from) (drop s.from piece) ∷ (lines left ++ behind)) (sym rest)

-- the row of a line that was read, and those of the lines behind it
pub rows_read : (old new : Lines) (line : List ℕ) → lines_left old ≡ line ∷ lines_left new → new.delim ≡ old.delim → new.columns ≡ old.columns
    → rows_left old ≡ row_of new.columns.now new.delim line ∷ rows_left new
rows_read old new line parts delim columns =
    ap (map (row_of old.columns.now old.delim)) parts
    ∙ (λ i. row_of ((sym columns) i).now ((sym delim) i) line ∷ map (row_of ((sym columns) i).now ((sym delim) i)) (lines_left new))

-- a row more that is read stands behind the others
pub row_added : (rows more : List (List Value)) (row : List Value) (first : List Tree) (behind : List (List Tree)) → more ≡ rows ++ row ∷ [] → row_tree row ≡ first
    → rows_tree rows ++ (first ∷ behind) ≡ rows_tree more ++ behind
row_added rows more row first behind more_is is =
    ap (λ r. rows_tree rows ++ (r ∷ behind)) (sym is)
    ∙ sym (append_assoc (rows_tree rows) (row_tree row ∷ []) behind)
    ∙ ap (λ ts. ts ++ behind) (sym (map-append row_tree rows (row ∷ [])))
    ∙ ap (λ ms. rows_tree ms ++ behind) (sym more_is)
