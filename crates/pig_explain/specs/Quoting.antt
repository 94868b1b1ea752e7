-- Texts in quotes, delimiters and the marks of fields and nested steps.
use Rattle.std.specs.Prelude.{ℕ, ◌==◌, ◌+◌, ◌/◌, ◌%◌, ◌||◌, nat_lt, List, [], ◌∷◌, ◌++◌, decimal, if◌then◌else◌}
use Rattle.std.specs.List.{flat_map}

-- of the bytes of a text the tab, the quote and the backslash are escaped, and nothing else
abbrev pub escape : ℕ → List ℕ
escape b = if b == 9 then 92 ∷ 116 ∷ [] else if (b == 39 || b == 92) then 92 ∷ b ∷ [] else b ∷ []

-- a text as a token
abbrev pub quoted : List ℕ → List ℕ
quoted text = 39 ∷ flat_map escape text ++ 39 ∷ []

-- a byte as two hexadecimal digits in lower case
abbrev pub hex_digit : ℕ → ℕ
hex_digit n = if nat_lt n 10 then 48 + n else 87 + n

abbrev pub hex : ℕ → List ℕ
hex byte = hex_digit (byte / 16) ∷ hex_digit (byte % 16) ∷ []

-- the field of a row at a position
abbrev pub field_text : ℕ → List ℕ
field_text position = 36 ∷ decimal position

-- the value of a nested step
abbrev pub local_text : ℕ → List ℕ
local_text number = 64 ∷ decimal number
