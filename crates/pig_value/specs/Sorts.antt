-- Sorted lists, how often a list holds something, and lists without repetition, over any order.
use Rattle.std.specs.Prelude.{◌≡◌, ℕ, false, not, List, [], ◌∷◌, length, ⊤, if◌then◌else◌}
use Rattle.std.specs.List.{filter}
use Rattle.std.specs.Ordering.{is_gt, is_eq}
use Rattle.std.specs.declared.cmp.Ordering.{Ordering}

-- `x` before the first element that it is not greater than
abbrev pub put : {X : Type 0} → (X → X → Ordering) → X → List X → List X
put R x [] = x ∷ []
put R x (y ∷ ys) = if is_gt (R x y) then y ∷ put R x ys else x ∷ y ∷ ys

-- the list sorted: each element put into its place
abbrev pub sort : {X : Type 0} → (X → X → Ordering) → List X → List X
sort R [] = []
sort R (x ∷ xs) = put R x (sort R xs)

-- `x` is not greater than the first element
abbrev pub Rises : {X : Type 0} → (X → X → Ordering) → X → List X → Type 0
Rises R x [] = ⊤
Rises R x (y ∷ ys) = is_gt (R x y) ≡ false

-- no element is greater than the next
abbrev pub Ascends : {X : Type 0} → (X → X → Ordering) → List X → Type 0
Ascends R [] = ⊤
Ascends R (x ∷ xs) = Rises R x xs × Ascends R xs

-- how often the list holds `x`
abbrev pub times : {X : Type 0} → (X → X → Ordering) → X → List X → ℕ
times R x xs = length (filter (λ y. is_eq (R x y)) xs)

-- each element of the list once, sorted
abbrev pub distinct : {X : Type 0} → (X → X → Ordering) → List X → List X
distinct R [] = []
distinct R (x ∷ xs) = put R x (filter (λ y. not (is_eq (R x y))) (distinct R xs))
