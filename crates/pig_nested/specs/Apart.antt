-- A list but for the elements that are the same as the next.
use Rattle.std.specs.Prelude.{Bool, false, List, [], ◌∷◌, if◌then◌else◌}
use Rattle.std.specs.Ordering.{is_eq}
use Rattle.std.specs.declared.cmp.Ordering.{Ordering}

-- whether the first element is the same as the next
abbrev pub repeats : {X : Type 0} → (X → X → Ordering) → List X → Bool
repeats R [] = false
repeats R (x ∷ []) = false
repeats R (x ∷ y ∷ xs) = is_eq (R x y)

abbrev pub apart : {X : Type 0} → (X → X → Ordering) → List X → List X
apart R [] = []
apart R (x ∷ xs) = if repeats R (x ∷ xs) then apart R xs else x ∷ apart R xs
