-- Rows that are read again from their text.
use Rattle.std.specs.Prelude.{◌≡◌, ◌≢◌, ◌-◌, ⊤, ℕ, suc, List, [], ◌∷◌, length, map, All}
use Rattle.std.specs.List.{slice_index}
use Rattle.pig_cast.specs.Plain.{IsPlainField}
use Rattle.pig_value.specs.declared.inputs.Column.{Column}
use Rattle.pig_value.specs.Kinds.{IsRowOf}
use Rattle.pig_value.specs.Texts.{IsLineFreeRow, row_text, text_of}
use Rattle.pig_value.specs.Trees.{Tree, kind_tree}
use Rattle.pig_value.specs.Valid.{IsRow}

-- the columns stand at the positions from one on, in turn
abbrev pub StandInTurn : ℕ → List Column → Type 0
StandInTurn at [] = ⊤
StandInTurn at (column ∷ columns) = (column.position ≡ at) × StandInTurn (suc at) columns

-- a plain value without the delimiter in its text
abbrev pub IsPlainBetween : ℕ → Tree → Type 0
IsPlainBetween delimiter v = IsPlainField v × All (λ b. b ≢ delimiter) (text_of v)

-- a row of values of the columns' kinds, each plain and without the delimiter
abbrev pub IsPlainRow : List Column → ℕ → List Tree → Type 0
IsPlainRow columns delimiter row = IsRowOf row (map (λ column. kind_tree column.kind) columns) × IsRow row × All (IsPlainBetween delimiter) row

-- the bytes do not end in a CR
abbrev pub EndsInNoCr : List ℕ → Type 0
EndsInNoCr bytes = slice_index bytes (length bytes - 1) ≢ 13

-- the text of the row is also a line as it stands
abbrev pub IsPlainLine : List Column → ℕ → List Tree → Type 0
IsPlainLine columns delimiter row = IsPlainRow columns delimiter row × IsLineFreeRow row × EndsInNoCr (row_text delimiter row)
