-- Rows as lines, one after the other.
use Rattle.std.proofs.Common.{◌≡◌, ℕ, zero, suc, ◌+◌, List, [], ◌∷◌, ◌++◌, drop, map, slice_get, Option, Some, None, refl, sym, ◌∙◌, ap}
use Rattle.std.proofs.Math.Logic.{∥∥₁_elim}
use Rattle.std.proofs.lemmas.List.{append_assoc}
use Rattle.std.specs.Borrow.{Bor}
use Rattle.std.specs.Coded.{Coded-set, coded_ℕ, coded_list}
use Rattle.std.specs.List.{join_with_byte}
use Rattle.std.specs.Option.{option_map}
use Rattle.pig_value.proofs.list_laws.Indexing.{dropped}
use Rattle.pig_value.proofs.list_laws.Listing.{some_same}
use Rattle.pig_value.specs.Texts.{rows_text, text_of}
use Rattle.pig_value.specs.Trees.{Tree, at}
use Rattle.pig_value.specs.Valid.{AreRows}
use Rattle.pig_keycode.specs.Codable.{IsCodeOfRow}
use Rattle.pig_keycode.specs.Keys.{fields_at}
use Rattle.pig_keycode.specs.Reading.{row_code}
use Rattle.pig_packed.proofs.Lending.{lent_is_code}
use Rattle.pig_packed_text.specs.SeenTexts.{line_of, line_text, placed, text_at}

text_there : (row : List Tree) (place : ℕ) → text_at (map text_of row) place ≡ text_of (at place row)
text_there [] place = refl
text_there (v ∷ vs) zero = refl
text_there (v ∷ vs) (suc place) = text_there vs place

texts_there : (row : List Tree) (places : List ℕ) → map (text_at (map text_of row)) places ≡ map text_of (fields_at places row)
texts_there row [] = refl
texts_there row (p ∷ ps) = ap (λ t. t ∷ map (text_at (map text_of row)) ps) (text_there row p) ∙ ap (λ ts. text_of (at p row) ∷ ts) (texts_there row ps)

-- the texts of a row's fields give its line
pub line_is : (delim : ℕ) (places : Option (Bor (List ℕ))) (texts : List (List ℕ)) (row : List Tree) → texts ≡ map text_of row → line_of delim places texts ≡ line_text delim places row
line_is delim None texts row e = ap (λ ts. join_with_byte delim ts ++ 10 ∷ []) e
line_is delim (Some places) texts row e =
    ap (λ ts. join_with_byte delim (map (text_at ts) places.now) ++ 10 ∷ []) e ∙ ap (λ ts. join_with_byte delim ts ++ 10 ∷ []) (texts_there row places.now)

-- the first row's line comes first
pub first_line : (delim : ℕ) (places : Option (Bor (List ℕ))) (row : List Tree) (rows : List (List Tree))
    → rows_text delim (placed places (row ∷ rows)) ≡ line_text delim places row ++ rows_text delim (placed places rows)
first_line delim None row rows = refl
first_line delim (Some places) row rows = refl

-- what is left of a text once some of its rows stand
abbrev pub left_from : ℕ → Option (Bor (List ℕ)) → List (List Tree) → ℕ → List ℕ
left_from delim places rows from = rows_text delim (placed places (drop from rows))

pub one_line : (delim : ℕ) (places : Option (Bor (List ℕ))) (rows : List (List Tree)) (from : ℕ) (row : List Tree) (old new whole : List ℕ) → slice_get rows from ≡ Some row
    → new ≡ old ++ line_text delim places row → old ++ left_from delim places rows from ≡ whole → new ++ left_from delim places rows (from + 1) ≡ whole
one_line delim places rows from row old new whole here is so_far =
    ap (λ l. l ++ left_from delim places rows (from + 1)) is
    ∙ (append_assoc old (line_text delim places row) (left_from delim places rows (from + 1))
    ∙ (ap (λ l. old ++ l) (sym (first_line delim places row (drop (from + 1) rows)) ∙ ap (λ rs. rows_text delim (placed places rs)) (sym (dropped rows from row here))) ∙ so_far))

-- what was read of a row's code is written as its line
pub row_written : (rows : List (List Tree)) (place : ℕ) (bytes : List ℕ) (delim : ℕ) (places : Option (Bor (List ℕ))) (texts : List (List ℕ)) (old new : List ℕ)
    → ∥ AreRows rows ∥₁ → option_map row_code (slice_get rows place) ≡ Some bytes → ((row : List Tree) → IsCodeOfRow bytes row → texts ≡ map text_of row)
    → new ≡ old ++ line_of delim places texts → (row : List Tree) → slice_get rows place ≡ Some row → new ≡ old ++ line_text delim places row
row_written rows place bytes delim places texts old new good lent read is row here =
    let coded : row_code row ≡ bytes = some_same (row_code row) bytes (sym (ap (option_map row_code) here) ∙ lent) in
    ∥∥₁_elim good (Coded-set (coded_list coded_ℕ) new (old ++ line_text delim places row))
    (λ h. is ∙ ap (λ l. old ++ l) (line_is delim places texts row (read row (lent_is_code rows place bytes row h here coded))))
