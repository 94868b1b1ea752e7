-- Lists as bags: a bag is known by the sum of every weight over its elements.
use Rattle.std.proofs.Common.{◌≡◌, ℕ, ◌+◌, List, Bool, false, cond, ap, arith}
use Rattle.std.specs.List.{sum_by, count_by}

-- the two lists hold the same elements
pub record SameBag {X : Type 0} (xs ys : List X) : Type 0 where
  pub sums : (f : X → ℕ) → sum_by f ys ≡ sum_by f xs

-- ys holds what xs does, and x
pub record Adds {X : Type 0} (x : X) (xs ys : List X) : Type 0 where
  pub sums : (f : X → ℕ) → sum_by f ys ≡ sum_by f xs + f x

-- ys holds y where xs holds x, and else the same
pub record Swaps {X : Type 0} (x y : X) (xs ys : List X) : Type 0 where
  pub sums : (f : X → ℕ) → sum_by f ys + f x ≡ sum_by f xs + f y

-- what passes a test alike may be swapped under its count
pub swapped_alike : {X : Type 0} (p : X → Bool) (x y : X) (xs ys : List X) → Swaps x y xs ys → p x ≡ p y → count_by p ys ≡ count_by p xs
swapped_alike p x y xs ys d e =
    let q = d.sums (λ z. cond {A = ℕ} (p z) 1 0) in
    let same : cond {A = ℕ} (p x) 1 0 ≡ cond {A = ℕ} (p y) 1 0 = ap (λ b. cond {A = ℕ} b 1 0) e in
    omega arith

-- what does not pass a test may be added under its count
pub added_other : {X : Type 0} (p : X → Bool) (x : X) (xs ys : List X) → Adds x xs ys → p x ≡ false → count_by p ys ≡ count_by p xs
added_other p x xs ys d e =
    let q = d.sums (λ z. cond {A = ℕ} (p z) 1 0) in
    let none : cond {A = ℕ} (p x) 1 0 ≡ 0 = ap (λ b. cond {A = ℕ} b 1 0) e in
    omega arith
