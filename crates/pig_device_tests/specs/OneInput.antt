-- The input that the rows of a host read.
use Rattle.std.specs.Prelude.{◌∷◌, [], List}
use Rattle.pig_value.specs.declared.inputs.Input.{Input}

-- The input `in` with its one piece `xyz`.
abbrev pub one_input : List Input
one_input = record { path = 105 ∷ 110 ∷ []; pieces = (120 ∷ 121 ∷ 122 ∷ []) ∷ [] } ∷ []
