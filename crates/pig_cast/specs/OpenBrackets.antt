-- Closing brackets that are wanted, as the digits of a number to the base 4.
use Rattle.std.specs.Prelude.{ℕ, zero, suc, ◌==◌, ◌/◌, ◌%◌, List, [], ◌∷◌, if◌then◌else◌}

abbrev pub bracket_of : ℕ → ℕ
bracket_of digit = if digit == 1 then 41 else (if digit == 2 then 93 else 125)

-- the brackets of so many digits at most, from the last on, up to where only zeros are left
abbrev pub brackets : ℕ → ℕ → List ℕ
brackets zero number = []
brackets (suc n) number = if number == 0 then [] else bracket_of (number % 4) ∷ brackets n (number / 4)
