-- Keys in directions: their code, and the order that it stands for.
use Rattle.std.specs.Prelude.{◌≡◌, ℕ, List, [], ◌∷◌, ◌++◌, length, map}
use Rattle.std.specs.Ordering.{ordering_then}
use Rattle.std.specs.declared.cmp.Ordering.{Ordering}
use Rattle.pig_value.specs.Trees.{Tree, at, v_tuple, fields_of, fields_list}
use Rattle.pig_value.specs.Orders.{tree_cmp, dirs_cmp}
use Rattle.pig_value.specs.Valid.{IsValue}
use Rattle.pig_value.specs.declared.operators.Dir.{Dir}
use Rattle.pig_keycode.specs.Codes.{code, code_in}

-- the fields of a key that is a tuple
abbrev pub fields_of_key : Tree → List Tree
fields_of_key (v_tuple vs) = fields_list vs
fields_of_key _ = []

-- A key of the form that directions ask for: any value where there are none, and else a tuple of as many fields.
abbrev pub IsKey : List Dir → Tree → Type 0
IsKey [] key = IsValue key
IsKey (d ∷ ds) key = IsValue key × (key ≡ v_tuple (fields_of (fields_of_key key))) × (length (fields_of_key key) ≡ length (d ∷ ds))

-- The order of keys: by each field in its own direction, and where there are no directions the order of values.
abbrev pub key_cmp : List Dir → Tree → Tree → Ordering
key_cmp [] a b = tree_cmp a b
key_cmp (d ∷ ds) a b = ordering_then (dirs_cmp (d ∷ ds) (fields_of_key a) (fields_of_key b)) (tree_cmp a b)

-- the codes of fields, one behind the other, each in its own direction
abbrev pub codes_in : List Dir → List Tree → List ℕ
codes_in (d ∷ ds) (v ∷ vs) = code_in d v ++ codes_in ds vs
codes_in _ _ = []

-- the fields of a row at places, null where there is none
abbrev pub fields_at : List ℕ → List Tree → List Tree
fields_at places row = map (λ place. at place row) places

-- the code of a key: ascending, or that of its fields in their directions
abbrev pub key_code : List Dir → Tree → List ℕ
key_code [] key = code key
key_code (d ∷ ds) key = codes_in (d ∷ ds) (fields_of_key key)
