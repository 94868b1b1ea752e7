-- The delimiters of PigStorage: one character from U+0000 to U+007F other than LF and CR.
use Rattle.std.specs.Prelude.{◌≢◌, ◌<◌, ◌==◌, ◌&&◌, ℕ, Bool, not, nat_lt, List, [], ◌∷◌, Option, Some, None, if◌then◌else◌}

-- what each delimiter is
abbrev pub IsDelimiter : ℕ → Type 0
IsDelimiter byte = (byte < 128) × (byte ≢ 10) × (byte ≢ 13)

abbrev pub is_delimiter : ℕ → Bool
is_delimiter byte = nat_lt byte 128 && not (byte == 10) && not (byte == 13)

-- the delimiter that a text names: its one character, or the tab for a backslash and the letter t
abbrev pub delimiter_of : List ℕ → Option ℕ
delimiter_of [] = None
delimiter_of (byte ∷ []) = if is_delimiter byte then Some byte else None
delimiter_of (byte ∷ next ∷ []) = if byte == 92 && next == 116 then Some 9 else None
delimiter_of (_ ∷ _ ∷ _ ∷ _) = None
