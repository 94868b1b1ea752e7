-- The inputs of a scene.
use Rattle.std.specs.Prelude.{ℕ, List, [], ◌∷◌, codes}
use Rattle.pig_value.specs.declared.inputs.Input.{Input}

-- an input of one piece at `a`, and one at `b`
abbrev pub given : List ℕ → List ℕ → List Input
given a b = record { path = codes "a"; pieces = a ∷ [] } ∷ record { path = codes "b"; pieces = b ∷ [] } ∷ []
