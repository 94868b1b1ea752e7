-- Texts in a row.
use Rattle.std.specs.Prelude.{ℕ, List, [], ◌∷◌, ◌++◌}

-- texts, the first behind `before` and each further one behind `between`
abbrev pub joined : List ℕ → List ℕ → List (List ℕ) → List ℕ
joined before between [] = []
joined before between (text ∷ texts) = before ++ text ++ joined between between texts
