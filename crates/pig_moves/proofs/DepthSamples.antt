-- How deep a key of a GROUP may take a condition, computed on plans of one node.
use Rattle.std.specs.Prelude.{◌≡◌, List, [], ◌∷◌, false, refl}
use Rattle.pig_plan.specs.Plans.{Plan, p_group}
use Rattle.pig_moves.specs.Depths.{key_levels, most_levels}
use Rattle.pig_typed.specs.Typed.{Typed, x_chars, x_field, x_minus}

abbrev grouped : List Typed → Plan
grouped keys = record { op = p_group (record { input = 0; keys = keys; inner = false } ∷ []); statement = 1 } ∷ []

by_column : key_levels (grouped (x_field 0 ∷ [])) ≡ 0
by_column = refl

by_constant : key_levels (grouped (x_chars [] ∷ [])) ≡ 0
by_constant = refl

by_minus : key_levels (grouped (x_minus (x_field 0) ∷ [])) ≡ most_levels
by_minus = refl

-- no condition passes a GROUP by several keys
by_two : key_levels (grouped (x_minus (x_field 0) ∷ x_field 1 ∷ [])) ≡ 0
by_two = refl
