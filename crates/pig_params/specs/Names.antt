-- The names of parameters.
use Rattle.std.specs.Prelude.{ℕ, Bool, ◌==◌, ◌||◌, ◌&&◌, false, List, [], ◌∷◌, take, drop, Option, Some, None, if◌then◌else◌}
use Rattle.std.specs.Char.{is_ascii_alphabetic, is_ascii_alphanumeric}
use Rattle.std.specs.List.{prefix_len, list_all}

-- a letter or `_`, with which a name begins
abbrev pub is_name_start : ℕ → Bool
is_name_start b = is_ascii_alphabetic b || b == 95

-- a letter, a digit or `_`
abbrev pub is_name_byte : ℕ → Bool
is_name_byte b = is_ascii_alphanumeric b || b == 95

-- whether bytes are a name
abbrev pub is_name : List ℕ → Bool
is_name [] = false
is_name (b ∷ bs) = is_name_start b && list_all is_name_byte bs

abbrev pub begins_name : List ℕ → Bool
begins_name [] = false
begins_name (b ∷ bs) = is_name_start b

-- the longest name that bytes begin with, and the bytes behind it
abbrev pub name_at : List ℕ → Option (List ℕ × List ℕ)
name_at bs = if begins_name bs then Some (take (prefix_len is_name_byte bs) bs, drop (prefix_len is_name_byte bs) bs) else None
