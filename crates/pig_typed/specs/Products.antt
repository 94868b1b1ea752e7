-- All joinings of lists: one list of fields from each part, the first part varying slowest.
-- (Pig Latin Basics: "Flatten Operator".)
use Rattle.std.specs.Prelude.{List, [], ◌∷◌, ◌++◌, map}
use Rattle.std.specs.List.{flat_map}

-- each list of the one part before each of the other
abbrev pub joined : {X : Type 0} → List (List X) → List (List X) → List (List X)
joined xs ys = flat_map (λ x. map (λ y. x ++ y) ys) xs

abbrev pub product : {X : Type 0} → List (List (List X)) → List (List X)
product [] = [] ∷ []
product (xs ∷ parts) = joined xs (product parts)
