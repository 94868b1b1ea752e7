-- Rows that are begun by the codes of their fields.
use Rattle.std.specs.Prelude.{◌≡◌, ℕ, List, ◌∷◌}
use Rattle.pig_value.specs.Trees.{Tree}
use Rattle.pig_value.specs.Valid.{IsRow}
use Rattle.pig_replicated.specs.Codes.{inner_code}

-- the code of a row up to its end, with these fields
abbrev pub begun_code : List Tree → List ℕ
begun_code fields = 6 ∷ inner_code fields

-- the bytes begin the code of a row with these fields
pub record Begins (bytes : List ℕ) (fields : List Tree) : Type 0 where
  pub is : bytes ≡ begun_code fields
  pub values : IsRow fields

abbrev pub IsBegun : List ℕ → Type 0
IsBegun bytes = ∥ ((fields : List Tree) × Begins bytes fields) ∥₁
