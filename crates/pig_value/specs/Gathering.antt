-- Lists split into parts by number, and gathered by key.
use Rattle.std.specs.Prelude.{◌≡◌, ◌==◌, ℕ, List, map}
use Rattle.std.specs.List.{filter, flat_map, AllByRecursion}
use Rattle.std.specs.Ordering.{is_eq}
use Rattle.std.specs.declared.cmp.Ordering.{Ordering}
use Rattle.std.specs.declared.cmp.Ordering.TheVariants.{Less}
use Rattle.pig_value.specs.Sorts.{distinct}
use Rattle.pig_value.specs.Trees.{Tree}

-- a row under its key, with the number of the input that it comes from
pub record Entry : Type 0 where
  pub key : Tree
  pub input : ℕ
  pub row : List Tree

-- the elements of a part
abbrev pub in_part : {X : Type 0} → (X → ℕ) → ℕ → List X → List X
in_part part p xs = filter (λ x. part x == p) xs

-- the elements with a key
abbrev pub with_key : {K X : Type 0} → (K → K → Ordering) → (X → K) → K → List X → List X
with_key C key k xs = filter (λ x. is_eq (C (key x) k)) xs

-- what `make` gives of each key and the elements that have it, the keys in ascending order
abbrev pub by_key : {K X Y : Type 0} → (K → K → Ordering) → (X → K) → (K → List X → List Y) → List X → List Y
by_key C key make xs = flat_map (λ k. make k (with_key C key k xs)) (distinct C (map key xs))

-- the elements have this key, or a greater one
abbrev pub HaveKey : {K X : Type 0} → (X → K) → K → List X → Type 0
HaveKey key k xs = AllByRecursion (λ x. key x ≡ k) xs

abbrev pub HaveGreater : {K X : Type 0} → (K → K → Ordering) → (X → K) → K → List X → Type 0
HaveGreater C key k xs = AllByRecursion (λ x. C k (key x) ≡ Less) xs
