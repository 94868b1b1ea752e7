-- Where one of two lists has ended, they are the same exactly where they are as long.
use Rattle.std.proofs.Common.{◌≡◌, ℕ, suc, zero, min, List, [], ◌∷◌, map, drop, length, refl, false, arith, ◌∙◌}
use Rattle.std.specs.Prelude.{nat_eq}
use Rattle.std.proofs.lemmas.Bool.Decides.{nat_tests}
use Rattle.pig_value.specs.declared.operators.ChainOp.{ChainOp}
use Rattle.pig_value.specs.Trees.{KindTree, kinds_of}
use Rattle.pig_value.specs.Kinds.{kinds_eq}
use Rattle.pig_typed.specs.Typed.{Typed, args_of, links_of}
use Rattle.pig_share.specs.Same.{same_args, same_links}

suc_eq : (a b : ℕ) → nat_eq a b ≡ nat_eq (suc a) (suc b)
suc_eq a b = grind (arith, nat_tests)

zero_suc : (b : ℕ) → false ≡ nat_eq 0 (suc b)
zero_suc b = grind (arith, nat_tests)

suc_zero : (a : ℕ) → false ≡ nat_eq (suc a) 0
suc_zero a = grind (arith, nat_tests)

module _ {W : Type 0} (g : W → KindTree) where
  pub kinds_end : (xs ys : List W) (i : ℕ) → i ≡ min (length xs) (length ys)
      → kinds_eq (kinds_of (map g (drop i xs))) (kinds_of (map g (drop i ys))) ≡ nat_eq (length xs) (length ys)
  kinds_end [] [] zero h = refl
  kinds_end [] [] (suc i) h = refl
  kinds_end [] (y ∷ ys) zero h = zero_suc (length ys)
  kinds_end [] (y ∷ ys) (suc i) h = absurd (let e : suc i ≡ min 0 (suc (length ys)) = h in omega arith)
  kinds_end (x ∷ xs) [] zero h = suc_zero (length xs)
  kinds_end (x ∷ xs) [] (suc i) h = absurd (let e : suc i ≡ min (suc (length xs)) 0 = h in omega arith)
  kinds_end (x ∷ xs) (y ∷ ys) zero h = absurd (let e : 0 ≡ min (suc (length xs)) (suc (length ys)) = h in omega arith)
  kinds_end (x ∷ xs) (y ∷ ys) (suc i) h =
      kinds_end xs ys i (let e : suc i ≡ min (suc (length xs)) (suc (length ys)) = h in omega arith) ∙ suc_eq (length xs) (length ys)

module _ {W : Type 0} (g : W → Typed) where
  pub args_end : (xs ys : List W) (i : ℕ) → i ≡ min (length xs) (length ys)
      → same_args (args_of (map g (drop i xs))) (args_of (map g (drop i ys))) ≡ nat_eq (length xs) (length ys)
  args_end [] [] zero h = refl
  args_end [] [] (suc i) h = refl
  args_end [] (y ∷ ys) zero h = zero_suc (length ys)
  args_end [] (y ∷ ys) (suc i) h = absurd (let e : suc i ≡ min 0 (suc (length ys)) = h in omega arith)
  args_end (x ∷ xs) [] zero h = suc_zero (length xs)
  args_end (x ∷ xs) [] (suc i) h = absurd (let e : suc i ≡ min (suc (length xs)) 0 = h in omega arith)
  args_end (x ∷ xs) (y ∷ ys) zero h = absurd (let e : 0 ≡ min (suc (length xs)) (suc (length ys)) = h in omega arith)
  args_end (x ∷ xs) (y ∷ ys) (suc i) h =
      args_end xs ys i (let e : suc i ≡ min (suc (length xs)) (suc (length ys)) = h in omega arith) ∙ suc_eq (length xs) (length ys)

module _ {W : Type 0} (g : W → ChainOp × Typed) where
  pub links_end : (xs ys : List W) (i : ℕ) → i ≡ min (length xs) (length ys)
      → same_links (links_of (map g (drop i xs))) (links_of (map g (drop i ys))) ≡ nat_eq (length xs) (length ys)
  links_end [] [] zero h = refl
  links_end [] [] (suc i) h = refl
  links_end [] (y ∷ ys) zero h = zero_suc (length ys)
  links_end [] (y ∷ ys) (suc i) h = absurd (let e : suc i ≡ min 0 (suc (length ys)) = h in omega arith)
  links_end (x ∷ xs) [] zero h = suc_zero (length xs)
  links_end (x ∷ xs) [] (suc i) h = absurd (let e : suc i ≡ min (suc (length xs)) 0 = h in omega arith)
  links_end (x ∷ xs) (y ∷ ys) zero h = absurd (let e : 0 ≡ min (suc (length xs)) (suc (length ys)) = h in omega arith)
  links_end (x ∷ xs) (y ∷ ys) (suc i) h =
      links_end xs ys i (let e : suc i ≡ min (suc (length xs)) (suc (length ys)) = h in omega arith) ∙ suc_eq (length xs) (length ys)

-- and what is left of them is then the same
pub left_same : {X : Type 0} (xs ys : List X) (i : ℕ) → i ≡ min (length xs) (length ys) → length xs ≡ length ys → drop i xs ≡ drop i ys
left_same [] [] i h e = refl
left_same [] (y ∷ ys) i h e = absurd (let g : 0 ≡ suc (length ys) = e in omega arith)
left_same (x ∷ xs) [] i h e = absurd (let g : suc (length xs) ≡ 0 = e in omega arith)
left_same (x ∷ xs) (y ∷ ys) zero h e = absurd (let g : 0 ≡ min (suc (length xs)) (suc (length ys)) = h in omega arith)
left_same (x ∷ xs) (y ∷ ys) (suc i) h e =
    left_same xs ys i (let g : suc i ≡ min (suc (length xs)) (suc (length ys)) = h in omega arith) (let g : suc (length xs) ≡ suc (length ys) = e in omega arith)
