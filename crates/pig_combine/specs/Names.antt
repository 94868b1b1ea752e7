-- What a key is found by in a table.
use Rattle.std.specs.Prelude.{ℕ, Bool, false, List, [], ◌∷◌, nat_lt, if◌then◌else◌}
use Rattle.pig_value.specs.Trees.{Tree, v_chars}
use Rattle.pig_keycode.specs.Codes.{code}

-- whether a text begins with a byte that no code begins with
abbrev pub is_plain : List ℕ → Bool
is_plain [] = false
is_plain (b ∷ bs) = nat_lt 9 b

-- such a text is found by its own bytes, and any other key by its code
abbrev pub name : Tree → List ℕ
name (v_chars text) = if is_plain text then text else code (v_chars text)
name v = code v
