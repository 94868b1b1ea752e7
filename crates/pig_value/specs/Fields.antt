-- What a field of a line reads as: a relation on the bytes, the kind and the value.
use Rattle.std.specs.Prelude.{◌≡◌, ◌≢◌, ◌++◌, ◌⊎◌, ℕ, Bool, List, [], ◌∷◌, map, All, FitsSigned}
use Rattle.std.specs.BTreeMap.{insert_entry}
use Rattle.std.specs.Char.{to_ascii_lowercase}
use Rattle.std.specs.Int.{Width, w32, w64}
use Rattle.std.specs.Str.Lossy.{utf8_lossy}
use Rattle.std.specs.Str.Parse.{IsNumeral, signed_digits_value, without_leading_sign}
use Rattle.pig_value.specs.Brackets.{IsBalanced, items, items_or_none}
use Rattle.pig_value.specs.Orders.{bag_of, text_cmp}
use Rattle.pig_value.specs.Texts.{bool_text}
use Rattle.pig_value.specs.Trees.{Tree, v_null, v_bool, v_int, v_long, v_chars, v_bytes, v_tuple, v_bag, v_map, fields_of, tuples_of, entries_of, KindTree, KindTrees, k_boolean, k_int, k_long, k_chars, k_bytes, k_tuple, k_bag, k_map, no_kinds, more_kinds}

-- an optional sign and one or more ASCII digits, whose number the width holds
abbrev pub IsNumberText : Width → List ℕ → Type 0
IsNumberText w bytes = IsNumeral 10 (without_leading_sign bytes) × FitsSigned w (signed_digits_value 10 bytes)

-- what P holds of, or null where it holds of nothing
abbrev pub CaseOrNull : (Tree → Type 0) → Tree → Type 0
CaseOrNull P v = P v ⊎ ((v ≡ v_null) × ((w : Tree) → ¬ P w))

-- null where the bytes are empty, or else what their case says, or null where no case holds
abbrev pub EmptyOrCase : (List ℕ → Tree → Type 0) → List ℕ → Tree → Type 0
EmptyOrCase P [] v = v ≡ v_null
EmptyOrCase P (b ∷ bytes) v = CaseOrNull (P (b ∷ bytes)) v

-- the bytes are two brackets with a balanced body between them
abbrev pub IsBracketed : ℕ → ℕ → List ℕ → List ℕ → Type 0
IsBracketed opening closing bytes body = (bytes ≡ opening ∷ (body ++ closing ∷ [])) × IsBalanced body

-- the bytes are a tuple text, whose items are these fields
abbrev pub IsTupleText : (List (List ℕ) → List Tree → Type 0) → List ℕ → List Tree → Type 0
IsTupleText P bytes row = (body : List ℕ) × IsBracketed 40 41 bytes body × P (items body) row

-- the bytes are a key, `#` and a value; the key has no `#`
abbrev pub IsPairText : (List ℕ → Tree → Type 0) → List ℕ → List ℕ × Tree → Type 0
IsPairText P bytes pair = (key : List ℕ) × (text : List ℕ) × (bytes ≡ key ++ 35 ∷ text) × All (λ b. b ≢ 35) key × (pair.0 ≡ utf8_lossy key) × P text pair.1

-- P holds of each x with the y at its place
abbrev pub Each : {X Y : Type 0} → (X → Y → Type 0) → List X → List Y → Type 0
Each {X} {Y} P [] ys = ys ≡ []
Each {X} {Y} P (x ∷ xs) ys = (y : Y) × (rest : List Y) × (ys ≡ y ∷ rest) × P x y × Each P xs rest

-- pairs put into a map, one after another: a value takes the place of an earlier one of its key
abbrev pub put_pairs : List (List ℕ × Tree) → List (List ℕ × Tree) → List (List ℕ × Tree)
put_pairs entries [] = entries
put_pairs entries (p ∷ ps) = put_pairs (insert_entry text_cmp entries p.0 p.1) ps

-- the pairs by ascending keys, of equal keys the last
abbrev pub entries_by_key : List (List ℕ × Tree) → List (List ℕ × Tree)
entries_by_key pairs = put_pairs [] pairs

-- the bytes are a text of the kind, and this is its value: one case for each kind
abbrev mutual
  pub IsCase : KindTree → List ℕ → Tree → Type 0
  IsCase k_bytes bytes v = v ≡ v_bytes bytes
  IsCase k_chars bytes v = v ≡ v_chars (utf8_lossy bytes)
  IsCase k_int bytes v = IsNumberText w32 bytes × (v ≡ v_int (signed_digits_value 10 bytes))
  IsCase k_long bytes v = IsNumberText w64 bytes × (v ≡ v_long (signed_digits_value 10 bytes))
  IsCase k_boolean bytes v = (b : Bool) × (map to_ascii_lowercase bytes ≡ bool_text b) × (v ≡ v_bool b)
  IsCase (k_tuple ks) bytes v = (row : List Tree) × IsTupleText (FieldsRead ks) bytes row × (v ≡ v_tuple (fields_of row))
  IsCase (k_bag ks) bytes v = (body : List ℕ) × (rows : List (List Tree)) × IsBracketed 123 125 bytes body × Each (IsTupleText (FieldsRead ks)) (items_or_none body) rows × (v ≡ v_bag (tuples_of (bag_of rows)))
  IsCase (k_map k) bytes v = (body : List ℕ) × (pairs : List (List ℕ × Tree)) × IsBracketed 91 93 bytes body × Each (IsPairText (EmptyOrCase (IsCase k))) (items_or_none body) pairs × (v ≡ v_map (entries_of (entries_by_key pairs)))

  -- the items in turn, each by its kind: those that are missing null, those beyond the kinds dropped
  pub FieldsRead : KindTrees → List (List ℕ) → List Tree → Type 0
  FieldsRead no_kinds texts row = row ≡ []
  FieldsRead (more_kinds k ks) [] row = (rest : List Tree) × (row ≡ v_null ∷ rest) × FieldsRead ks [] rest
  FieldsRead (more_kinds k ks) (text ∷ texts) row = (v : Tree) × (rest : List Tree) × (row ≡ v ∷ rest) × EmptyOrCase (IsCase k) text v × FieldsRead ks texts rest

-- what a field reads as: null where it is empty, or where it is no text of its kind
abbrev pub IsField : KindTree → List ℕ → Tree → Type 0
IsField k bytes v = EmptyOrCase (IsCase k) bytes v
