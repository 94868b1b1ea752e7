-- Rows by their keys, where each key is there once, are the rows.
use Rattle.std.specs.Prelude.{◌≡◌, ◌≤◌, ◌+◌, ℕ, zero, suc, Bool, true, false, List, [], ◌∷◌, map, refl}
use Rattle.std.proofs.Common.{ap, sym, ◌∙◌, arith, cond}
use Rattle.std.specs.List.{flat_map}
use Rattle.std.specs.List.Sorted.{IsPermutation}
use Rattle.std.specs.Ordering.{is_eq}
use Rattle.std.proofs.lemmas.Cmp.{tied_itself}
use Rattle.pig_value.specs.Orders.{row_cmp, tree_cmp}
use Rattle.pig_value.specs.Sorts.{times}
use Rattle.pig_value.specs.Trees.{Tree}
use Rattle.pig_value.proofs.OrderLaws.{row_same, row_total, tree_total}
use Rattle.pig_value.proofs.list_laws.Bags.{either_way, eq_is, permutation_from_times, times-append, times-cons, times-filter}
use Rattle.pig_replicated.proofs.Sides.{of_key}

abbrev Row : Type 0
Row = List Tree

-- a row that is there has its key among the keys
pub key_there : (key : Row → Tree) (z : Row) (rows : List Row) → 1 ≤ times row_cmp z rows → 1 ≤ times tree_cmp (key z) (map key rows)
key_there key z [] h = h
key_there key z (x ∷ rows) h =
    let counted = times-cons row_cmp z x rows in
    let keyed = times-cons tree_cmp (key z) (key x) (map key rows) in
    either_way (is_eq (row_cmp z x))
    (λ e.
    let same : z ≡ x = row_same z x (eq_is (row_cmp z x) e) in
    let one : is_eq (tree_cmp (key z) (key x)) ≡ true = ap (λ k. is_eq (tree_cmp (key z) k)) (sym (ap key same)) ∙ ap is_eq (tied_itself tree_total (key z)) in
    let here : ◌≡◌ {A = ℕ} (cond (is_eq (tree_cmp (key z) (key x))) 1 0) 1 = ap (λ b. cond b 1 0) one in
    omega (arith, keyed, here))
    (λ e.
    let none : ◌≡◌ {A = ℕ} (cond (is_eq (row_cmp z x)) 1 0) 0 = ap (λ b. cond b 1 0) e in
    let later = key_there key z rows (omega (arith, counted, none, h)) in
    omega (arith, later, keyed))

-- so many times a number
abbrev so_often : ℕ → ℕ → ℕ
so_often zero t = 0
so_often (suc n) t = t + so_often n t

never : (n : ℕ) → so_often n 0 ≡ 0
never zero = refl
never (suc n) = let none = never n in omega (arith, none)

module _ (key : Row → Tree) where
  -- with a further key a row is found once more where it has that key
  once_more : (b : Bool) (m t n : ℕ) → n ≡ cond b 1 0 + m → cond b t 0 + so_often m t ≡ so_often n t
  once_more true m t n h = ap (λ i. so_often i t) (let e : suc m ≡ n = omega (arith, h) in e)
  once_more false m t n h = let e : 0 + so_often m t ≡ so_often m t = omega arith in e ∙ ap (λ i. so_often i t) (let e : m ≡ n = omega (arith, h) in e)

  times_found : (z : Row) (rows : List Row) (ks : List Tree) → times row_cmp z (flat_map (λ k. of_key key k rows) ks) ≡ so_often (times tree_cmp (key z) ks) (times row_cmp z rows)
  times_found z rows [] = refl
  times_found z rows (k ∷ ks) =
      times-append row_cmp z (of_key key k rows) (flat_map (λ k. of_key key k rows) ks)
      ∙ (λ i. times-filter row_cmp row_total row_same (λ x. is_eq (tree_cmp (key x) k)) z rows i + times_found z rows ks i)
      ∙ once_more (is_eq (tree_cmp (key z) k)) (times tree_cmp (key z) ks) (times row_cmp z rows) (times tree_cmp (key z) (k ∷ ks)) (times-cons tree_cmp (key z) k ks)

  pub by_keys_are : (ks : List Tree) (rows : List Row) → ((z : Row) → 1 ≤ times row_cmp z rows → times tree_cmp (key z) ks ≡ 1)
      → IsPermutation (flat_map (λ k. of_key key k rows) ks) rows
  by_keys_are ks rows once =
      permutation_from_times row_cmp row_total row_same (flat_map (λ k. of_key key k rows) ks) rows (λ z. times_found z rows ks ∙ as_often z (times row_cmp z rows) refl)
    where
      as_often : (z : Row) (t : ℕ) → times row_cmp z rows ≡ t → so_often (times tree_cmp (key z) ks) (times row_cmp z rows) ≡ times row_cmp z rows
      as_often z zero e = ap (so_often (times tree_cmp (key z) ks)) e ∙ never (times tree_cmp (key z) ks) ∙ sym e
      as_often z (suc t) e = ap (λ n. so_often n (times row_cmp z rows)) (once z (omega (arith, e))) ∙ omega arith
