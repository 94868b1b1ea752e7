-- What a field of a line reads as, as a function: it gives the value that `IsField` of `Fields` says, of every kind and field.
use Rattle.std.specs.Prelude.{◌==◌, ◌&&◌, ℕ, ℤ, Bool, true, false, nat_lt, List, [], ◌∷◌, length, map, Option, None, Some, if◌then◌else◌}
use Rattle.std.specs.Char.{to_ascii_lowercase}
use Rattle.std.specs.Int.{Width, w32, w64, int_wrap}
use Rattle.std.specs.Option.{option_and_then, option_map, unwrap_or}
use Rattle.std.specs.Ordering.{int_eq}
use Rattle.std.specs.Str.{all_ascii_digits, bytes_eq}
use Rattle.std.specs.Str.Lossy.{utf8_lossy}
use Rattle.std.specs.Str.Parse.{signed_digits_value, without_leading_sign}
use Rattle.pig_value.specs.Fields.{entries_by_key}
use Rattle.pig_value.specs.Brackets.{body_of, items, items_or_none}
use Rattle.pig_value.specs.Orders.{bag_of}
use Rattle.pig_value.specs.Texts.{bool_text}
use Rattle.pig_value.specs.Trees.{Tree, v_null, v_bool, v_int, v_long, v_chars, v_bytes, v_tuple, v_bag, v_map, fields_of, tuples_of, entries_of, KindTree, KindTrees, k_boolean, k_int, k_long, k_chars, k_bytes, k_tuple, k_bag, k_map, no_kinds, more_kinds}

-- the width holds the number: reducing it to the width leaves it as it is
abbrev pub fits_signed : Width → ℤ → Bool
fits_signed w z = int_eq (int_wrap w z) z

abbrev pub is_number_text : Width → List ℕ → Bool
is_number_text w bytes =
    let digits = without_leading_sign bytes in
    nat_lt 0 (length digits) && all_ascii_digits digits && fits_signed w (signed_digits_value 10 bytes)

-- the number that the bytes write at a width
abbrev pub number_of : Width → List ℕ → Option ℤ
number_of w bytes = if is_number_text w bytes then Some (signed_digits_value 10 bytes) else None

-- the boolean that the bytes write
abbrev pub bool_of : List ℕ → Option Bool
bool_of bytes =
    let lower = map to_ascii_lowercase bytes in
    if bytes_eq lower (bool_text true) then Some true
    else (if bytes_eq lower (bool_text false) then Some false else None)

-- null where the bytes are empty, or are no text of the kind
abbrev pub value_in : (List ℕ → Option Tree) → List ℕ → Tree
value_in value [] = v_null
value_in value (b ∷ bytes) = unwrap_or (value (b ∷ bytes)) v_null

-- the fields of a tuple text
abbrev pub row_in : (List (List ℕ) → List Tree) → List ℕ → Option (List Tree)
row_in fields bytes = option_map (λ body. fields (items body)) (body_of 40 41 bytes)

-- what is before the first such byte and what is behind it
abbrev pub cut_at : ℕ → List ℕ → Option (List ℕ × List ℕ)
cut_at c [] = None
cut_at c (b ∷ bytes) = if b == c then Some ([], bytes) else option_map (λ p. (b ∷ p.0, p.1)) (cut_at c bytes)

-- the pair of a key, `#` and a value
abbrev pub pair_in : (List ℕ → Tree) → List ℕ → Option (List ℕ × Tree)
pair_in value bytes = option_map (λ p. (utf8_lossy p.0, value p.1)) (cut_at 35 bytes)

-- what each text reads as, where each reads as something
abbrev pub all_of : {X Y : Type 0} → (X → Option Y) → List X → Option (List Y)
all_of f [] = Some []
all_of f (x ∷ xs) = option_and_then (λ y. option_map (λ ys. y ∷ ys) (all_of f xs)) (f x)

-- the rows of a bag text, and the pairs of a map text
abbrev pub rows_in : (List ℕ → Option (List Tree)) → List ℕ → Option (List (List Tree))
rows_in row bytes = option_and_then (λ body. all_of row (items_or_none body)) (body_of 123 125 bytes)

abbrev pub pairs_in : (List ℕ → Option (List ℕ × Tree)) → List ℕ → Option (List (List ℕ × Tree))
pairs_in pair bytes = option_and_then (λ body. all_of pair (items_or_none body)) (body_of 91 93 bytes)

-- the value of bytes that are a text of the kind
abbrev mutual
  pub case_of : KindTree → List ℕ → Option Tree
  case_of k_bytes bytes = Some (v_bytes bytes)
  case_of k_chars bytes = Some (v_chars (utf8_lossy bytes))
  case_of k_int bytes = option_map v_int (number_of w32 bytes)
  case_of k_long bytes = option_map v_long (number_of w64 bytes)
  case_of k_boolean bytes = option_map v_bool (bool_of bytes)
  case_of (k_tuple ks) bytes = option_map (λ row. v_tuple (fields_of row)) (row_in (fields_in ks) bytes)
  case_of (k_bag ks) bytes = option_map (λ rows. v_bag (tuples_of (bag_of rows))) (rows_in (row_in (fields_in ks)) bytes)
  case_of (k_map k) bytes = option_map (λ pairs. v_map (entries_of (entries_by_key pairs))) (pairs_in (pair_in (value_in (case_of k))) bytes)

  pub fields_in : KindTrees → List (List ℕ) → List Tree
  fields_in no_kinds texts = []
  fields_in (more_kinds k ks) [] = v_null ∷ fields_in ks []
  fields_in (more_kinds k ks) (text ∷ texts) = value_in (case_of k) text ∷ fields_in ks texts

-- the value of a field
abbrev pub field_value : KindTree → List ℕ → Tree
field_value k bytes = value_in (case_of k) bytes
