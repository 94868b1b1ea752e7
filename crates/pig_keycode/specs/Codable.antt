-- Bytes that are the code of a value.
use Rattle.std.specs.Prelude.{◌≡◌, ℕ, List}
use Rattle.pig_value.specs.Trees.{Tree, v_tuple, fields_of}
use Rattle.pig_value.specs.Valid.{IsValue}
use Rattle.pig_keycode.specs.Codes.{code}

-- the bytes are the code of the value
pub record IsCodeOf (bytes : List ℕ) (v : Tree) : Type 0 where
  pub is : bytes ≡ code v
  pub value : IsValue v

-- the bytes are the code of the row as a tuple
abbrev pub IsCodeOfRow : List ℕ → List Tree → Type 0
IsCodeOfRow bytes row = IsCodeOf bytes (v_tuple (fields_of row))
