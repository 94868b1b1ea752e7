-- The texts of a row's fields, and the rows that a STORE of some of their fields has.
use Rattle.std.specs.Prelude.{◌≡◌, ◌≢◌, ◌⊎◌, ℕ, List, [], ◌∷◌, ◌++◌, map, get_or, Option, Some, None}
use Rattle.std.specs.Borrow.{Bor}
use Rattle.std.specs.List.{join_with_byte}
use Rattle.pig_value.specs.Texts.{row_text, text_of}
use Rattle.pig_value.specs.Trees.{Tree, tree}
use Rattle.pig_keycode.specs.Codes.{text_code}
use Rattle.pig_keycode.specs.Keys.{fields_at}
use Rattle.pig_packed_text.specs.declared.reading.Seen.{Seen}
use Rattle.pig_packed_text.specs.declared.reading.Seen.TheVariants as seen

-- the text of a field
abbrev pub seen_text : Seen → List ℕ
seen_text (seen.Text text) = text.now
seen_text (seen.Other value) = text_of (tree value)

-- the text at a place, none behind the last
abbrev pub text_at : List (List ℕ) → ℕ → List ℕ
text_at texts place = get_or texts place []

-- bytes begin with the code of a chararray or of bytes
abbrev pub BeginsWithText : List ℕ → List ℕ → List ℕ → Type 0
BeginsWithText bytes text rest = (bytes ≡ 4 ∷ (text_code text ++ rest)) ⊎ (bytes ≡ 5 ∷ (text_code text ++ rest))

-- no mark of a field stands first
abbrev pub BeginsNone : List ℕ → Type 0
BeginsNone rest = (item : List ℕ) → rest ≢ 1 ∷ item

-- the line of a row whose fields have these texts: all of them, or those at places
abbrev pub line_of : ℕ → Option (Bor (List ℕ)) → List (List ℕ) → List ℕ
line_of delim None texts = join_with_byte delim texts ++ 10 ∷ []
line_of delim (Some places) texts = join_with_byte delim (map (text_at texts) places.now) ++ 10 ∷ []

-- the line of a row, or of its fields at places
abbrev pub line_text : ℕ → Option (Bor (List ℕ)) → List Tree → List ℕ
line_text delim None row = row_text delim row ++ 10 ∷ []
line_text delim (Some places) row = row_text delim (fields_at places.now row) ++ 10 ∷ []

-- the rows, or their fields at places
abbrev pub placed : Option (Bor (List ℕ)) → List (List Tree) → List (List Tree)
placed None rows = rows
placed (Some places) rows = map (fields_at places.now) rows
