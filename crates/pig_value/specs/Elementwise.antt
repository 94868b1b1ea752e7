-- Two lists of one length, element beside element; numbers that rise.
use Rattle.std.specs.Prelude.{◌<◌, ℕ, List, [], ◌∷◌, ⊤}
use Rattle.std.specs.List.{AllByRecursion}

-- the lists have one length, and the relation holds of each two elements at one place
abbrev pub Each : {X Y : Type 0} → (X → Y → Type 0) → List X → List Y → Type 0
Each P [] [] = ⊤
Each P (x ∷ xs) (y ∷ ys) = P x y × Each P xs ys
Each P [] (y ∷ ys) = ⊥
Each P (x ∷ xs) [] = ⊥

-- each number is below all that follow it
abbrev pub Rising : List ℕ → Type 0
Rising [] = ⊤
Rising (k ∷ ks) = AllByRecursion (λ j. k < j) ks × Rising ks
