-- The key code: the bytes that a value is written as where bytes are to be compared in place of values.
use Rattle.std.specs.Prelude.{◌+◌, ◌-◌, ◌^◌, ℕ, zero, suc, ℤ, pos, negsuc, Bool, true, false, List, [], ◌∷◌, ◌++◌, map}
use Rattle.std.specs.Int.{w32, w64, to_be_bytes}
use Rattle.pig_value.specs.Trees.{
  Tree,
  Fields,
  Tuples,
  Entries,
  v_null,
  v_bool,
  v_int,
  v_long,
  v_chars,
  v_bytes,
  v_tuple,
  v_bag,
  v_listed,
  v_map,
  no_fields,
  more_fields,
  no_tuples,
  more_tuples,
  no_entries,
  more_entries,
}
use Rattle.pig_value.specs.declared.operators.Dir.{Dir}
use Rattle.pig_value.specs.declared.operators.Dir.TheVariants.{Asc, Desc}

-- a truth value as a byte
abbrev pub bool_code : Bool → ℕ
bool_code false = 0
bool_code true = 1

-- a number plus half of its width's range
abbrev pub biased : ℕ → ℤ → ℕ
biased half (pos n) = half + n
biased half (negsuc n) = half - (n + 1)

-- the bytes of a text, a zero byte as 00 ff
abbrev pub escaped_byte : ℕ → List ℕ
escaped_byte zero = 0 ∷ 255 ∷ []
escaped_byte (suc b) = suc b ∷ []

abbrev pub escaped : List ℕ → List ℕ
escaped [] = []
escaped (b ∷ bs) = escaped_byte b ++ escaped bs

-- a text, and the mark of its end
abbrev pub text_code : List ℕ → List ℕ
text_code bs = escaped bs ++ 0 ∷ 0 ∷ []

-- A tag and a content. In a list 01 stands before each item, and 00 behind the last.
abbrev mutual
  pub code : Tree → List ℕ
  code v_null = 0 ∷ []
  code (v_bool b) = 1 ∷ bool_code b ∷ []
  code (v_int z) = 2 ∷ to_be_bytes w32 (biased (2 ^ 31) z)
  code (v_long z) = 3 ∷ to_be_bytes w64 (biased (2 ^ 63) z)
  code (v_chars text) = 4 ∷ text_code text
  code (v_bytes bytes) = 5 ∷ text_code bytes
  code (v_tuple vs) = 6 ∷ fields_code vs
  code (v_bag rs) = 7 ∷ tuples_code rs
  code (v_listed rs) = 8 ∷ tuples_code rs
  code (v_map ps) = 9 ∷ entries_code ps

  pub fields_code : Fields → List ℕ
  fields_code no_fields = 0 ∷ []
  fields_code (more_fields v vs) = 1 ∷ (code v ++ fields_code vs)

  -- a tuple of a bag is written as a tuple
  pub tuples_code : Tuples → List ℕ
  tuples_code no_tuples = 0 ∷ []
  tuples_code (more_tuples r rs) = 1 ∷ 6 ∷ (fields_code r ++ tuples_code rs)

  -- a key of a map is written as a chararray
  pub entries_code : Entries → List ℕ
  entries_code no_entries = 0 ∷ []
  entries_code (more_entries key v ps) = 1 ∷ 4 ∷ (text_code key ++ (code v ++ entries_code ps))

-- the code in a direction: each byte turned round where it descends
abbrev pub turned : List ℕ → List ℕ
turned = map (λ b. 255 - b)

abbrev pub in_direction : Dir → List ℕ → List ℕ
in_direction Asc bytes = bytes
in_direction Desc bytes = turned bytes

abbrev pub code_in : Dir → Tree → List ℕ
code_in dir v = in_direction dir (code v)
