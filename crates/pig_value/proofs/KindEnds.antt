-- Where one of two lists has ended, they are alike exactly where they are as long.
use Rattle.std.proofs.Common.{◌≡◌, ℕ, suc, zero, min, List, [], ◌∷◌, map, drop, length, refl, false, arith, ◌∙◌}
use Rattle.std.specs.Prelude.{nat_eq}
use Rattle.std.proofs.lemmas.Bool.Decides.{nat_tests}
use Rattle.pig_value.specs.Trees.{Tree, KindTree, fields_of, kinds_of}
use Rattle.pig_value.specs.Kinds.{fields_of_kinds, kinds_eq}

suc_eq : (a b : ℕ) → nat_eq a b ≡ nat_eq (suc a) (suc b)
suc_eq a b = grind (arith, nat_tests)

zero_suc : (b : ℕ) → false ≡ nat_eq 0 (suc b)
zero_suc b = grind (arith, nat_tests)

suc_zero : (a : ℕ) → false ≡ nat_eq (suc a) 0
suc_zero a = grind (arith, nat_tests)

module _ {V W : Type 0} (f : V → Tree) (g : W → KindTree) where
  -- up to the end of the shorter list, counted down from the front
  pub fields_end : (xs : List V) (ys : List W) (i : ℕ) → i ≡ min (length xs) (length ys)
      → fields_of_kinds (fields_of (map f (drop i xs))) (kinds_of (map g (drop i ys))) ≡ nat_eq (length xs) (length ys)
  fields_end [] [] zero h = refl
  fields_end [] [] (suc i) h = refl
  fields_end [] (y ∷ ys) zero h = zero_suc (length ys)
  fields_end [] (y ∷ ys) (suc i) h = absurd (let e : suc i ≡ min 0 (suc (length ys)) = h in omega arith)
  fields_end (x ∷ xs) [] zero h = suc_zero (length xs)
  fields_end (x ∷ xs) [] (suc i) h = absurd (let e : suc i ≡ min (suc (length xs)) 0 = h in omega arith)
  fields_end (x ∷ xs) (y ∷ ys) zero h = absurd (let e : 0 ≡ min (suc (length xs)) (suc (length ys)) = h in omega arith)
  fields_end (x ∷ xs) (y ∷ ys) (suc i) h =
      fields_end xs ys i (let e : suc i ≡ min (suc (length xs)) (suc (length ys)) = h in omega arith) ∙ suc_eq (length xs) (length ys)

module _ {W : Type 0} (g : W → KindTree) where
  pub kinds_end : (xs ys : List W) (i : ℕ) → i ≡ min (length xs) (length ys)
      → kinds_eq (kinds_of (map g (drop i xs))) (kinds_of (map g (drop i ys))) ≡ nat_eq (length xs) (length ys)
  kinds_end [] [] zero h = refl
  kinds_end [] [] (suc i) h = refl
  kinds_end [] (y ∷ ys) zero h = zero_suc (length ys)
  kinds_end [] (y ∷ ys) (suc i) h = absurd (let e : suc i ≡ min 0 (suc (length ys)) = h in omega arith)
  kinds_end (x ∷ xs) [] zero h = suc_zero (length xs)
  kinds_end (x ∷ xs) [] (suc i) h = absurd (let e : suc i ≡ min (suc (length xs)) 0 = h in omega arith)
  kinds_end (x ∷ xs) (y ∷ ys) zero h = absurd (let e : 0 ≡ min (suc (length xs)) (suc (length ys)) = h in omega arith)
  kinds_end (x ∷ xs) (y ∷ ys) (suc i) h =
      kinds_end xs ys i (let e : suc i ≡ min (suc (length xs)) (suc (length ys)) = h in omega arith) ∙ suc_eq (length xs) (length ys)
