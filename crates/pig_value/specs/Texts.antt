-- The text of values and of rows, and which values are free of line ends.
use Rattle.std.specs.Prelude.{◌≢◌, ⊤, ℕ, Bool, List, [], ◌∷◌, ◌++◌, map, All, codes, if◌then◌else◌}
use Rattle.std.specs.Fmt.{signed_decimal}
use Rattle.std.specs.List.{join_with_byte, flat_map}
use Rattle.pig_value.specs.Leaves.{Leaf, LeavesAre, FieldLeavesAre, TupleLeavesAre, EntryLeavesAre}
use Rattle.pig_value.specs.Trees.{Tree, Fields, Tuples, Entries, v_null, v_bool, v_int, v_long, v_chars, v_bytes, v_tuple, v_bag, v_listed, v_map, no_fields, more_fields, no_tuples, more_tuples, no_entries, more_entries}

-- the texts between two brackets, with a comma between each two
abbrev pub bracketed : ℕ → List (List ℕ) → ℕ → List ℕ
bracketed opening texts closing = opening ∷ join_with_byte 44 texts ++ closing ∷ []

-- a tuple's text, `(a,b)`, from those of its fields
abbrev pub tuple_text : List (List ℕ) → List ℕ
tuple_text texts = bracketed 40 texts 41

abbrev pub bool_text : Bool → List ℕ
bool_text b = if b then codes "true" else codes "false"

-- the text of a value: nothing for null, a number in decimal, the bytes of a chararray or bytearray,
-- `(a,b)` for a tuple, `{(a),(b)}` for a bag and `[k#v,l#w]` for a map
abbrev mutual
  pub text_of : Tree → List ℕ
  text_of v_null = []
  text_of (v_bool b) = bool_text b
  text_of (v_int z) = signed_decimal z
  text_of (v_long z) = signed_decimal z
  text_of (v_chars text) = text
  text_of (v_bytes bytes) = bytes
  text_of (v_tuple vs) = tuple_text (field_texts vs)
  text_of (v_bag rs) = bracketed 123 (tuple_texts rs) 125
  text_of (v_listed rs) = bracketed 123 (tuple_texts rs) 125
  text_of (v_map ps) = bracketed 91 (entry_texts ps) 93

  pub field_texts : Fields → List (List ℕ)
  field_texts no_fields = []
  field_texts (more_fields v vs) = text_of v ∷ field_texts vs

  pub tuple_texts : Tuples → List (List ℕ)
  tuple_texts no_tuples = []
  tuple_texts (more_tuples r rs) = tuple_text (field_texts r) ∷ tuple_texts rs

  pub entry_texts : Entries → List (List ℕ)
  entry_texts no_entries = []
  entry_texts (more_entries key v ps) = (key ++ 35 ∷ text_of v) ∷ entry_texts ps

-- the text of a row: those of its fields, with the delimiter between each two
abbrev pub row_text : ℕ → List Tree → List ℕ
row_text delimiter row = join_with_byte delimiter (map text_of row)

-- the text of rows: each row's, with an LF behind it
abbrev pub rows_text : ℕ → List (List Tree) → List ℕ
rows_text delimiter rows = flat_map (λ row. row_text delimiter row ++ 10 ∷ []) rows

-- bytes without an LF
abbrev pub HasNoLf : List ℕ → Type 0
HasNoLf bytes = All (λ b. b ≢ 10) bytes

-- no text, bytearray or key in the value holds an LF
abbrev pub line_free : Leaf
line_free = record { chars = HasNoLf; bytes = HasNoLf; key = HasNoLf; listed = ⊤ }

abbrev pub IsLineFree : Tree → Type 0
IsLineFree = LeavesAre line_free

abbrev pub FieldsAreLineFree : Fields → Type 0
FieldsAreLineFree = FieldLeavesAre line_free

abbrev pub TuplesAreLineFree : Tuples → Type 0
TuplesAreLineFree = TupleLeavesAre line_free

abbrev pub EntriesAreLineFree : Entries → Type 0
EntriesAreLineFree = EntryLeavesAre line_free

-- each field of the row is line-free, and each row of the rows
abbrev pub IsLineFreeRow : List Tree → Type 0
IsLineFreeRow row = All IsLineFree row

abbrev pub AreLineFreeRows : List (List Tree) → Type 0
AreLineFreeRows rows = All IsLineFreeRow rows
