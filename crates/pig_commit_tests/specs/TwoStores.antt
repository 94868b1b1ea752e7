-- Two STOREs: one of two parts, and one of none.
use Rattle.std.specs.Prelude.{ℕ, List, [], ◌∷◌}
use Rattle.pig_commit.specs.declared.parts.StorePart.{StorePart}

abbrev pub two_stores : List StorePart
two_stores =
    record { statement = 3; dir = 112 ∷ []; parts = (49 ∷ 10 ∷ []) ∷ (50 ∷ 10 ∷ []) ∷ [] }
    ∷ record { statement = 4; dir = 113 ∷ []; parts = [] }
    ∷ []
