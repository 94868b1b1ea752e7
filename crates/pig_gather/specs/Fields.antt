-- The codes of a row's fields and of a bag's rows, piece by piece, and rows that are begun by them.
use Rattle.std.specs.Prelude.{◌≡◌, ℕ, List, ◌∷◌}
use Rattle.std.specs.List.{flat_map}
use Rattle.pig_value.specs.Trees.{Tree}
use Rattle.pig_value.specs.Valid.{IsRow}
use Rattle.pig_keycode.specs.Codes.{code}
use Rattle.pig_keycode.specs.Reading.{row_code}

-- a field within the code of its row, and fields one behind another
abbrev pub field_code : Tree → List ℕ
field_code v = 1 ∷ code v

abbrev pub inner_code : List Tree → List ℕ
inner_code = flat_map field_code

-- a row within the code of a bag, and rows one behind another
abbrev pub item_code : List Tree → List ℕ
item_code row = 1 ∷ row_code row

abbrev pub items_code : List (List Tree) → List ℕ
items_code = flat_map item_code

-- the code of a row up to its end, with these fields
abbrev pub begun_code : List Tree → List ℕ
begun_code fields = 6 ∷ inner_code fields

-- the bytes begin the code of a row with these fields
pub record Begins (bytes : List ℕ) (fields : List Tree) : Type 0 where
  pub is : bytes ≡ begun_code fields
  pub values : IsRow fields

abbrev pub IsBegun : List ℕ → Type 0
IsBegun bytes = ∥ ((fields : List Tree) × Begins bytes fields) ∥₁
