-- DISTINCT and LIMIT of rows that come in tasks.
use Rattle.std.specs.Prelude.{◌≡◌, ◌<◌, ◌≤◌, ℕ, zero, suc, List, [], ◌∷◌, ◌++◌, length, map, min, take, refl}
use Rattle.std.proofs.Common.{ap, sym, subst, ◌∙◌, arith}
use Rattle.std.specs.List.{flat_map, range_with_len}
use Rattle.std.specs.List.Sorted.{IsPermutation}
use Rattle.std.proofs.lemmas.List.{length-append}
use Rattle.std.proofs.lemmas.List.Concat.{flat_map_single}
use Rattle.pig_value.proofs.OrderLaws.{row_total, row_same}
use Rattle.pig_value.proofs.list_laws.Bags.{times-append}
use Rattle.pig_value.proofs.list_laws.Partitions.{by_key_tasks}
use Rattle.pig_value.specs.Gathering.{by_key, in_part}
use Rattle.pig_value.specs.Orders.{row_cmp}
use Rattle.pig_value.specs.Sorts.{distinct, times}
use Rattle.pig_value.specs.Trees.{Tree}
use Rattle.pig_plan.specs.Laws.{EachKept}
use Rattle.pig_plan.specs.Meaning.{AreKept}

abbrev Rows : Type 0
Rows = List (List Tree)

-- ---- each row once: rows under themselves as keys, of which each gives itself

abbrev once : Rows → Rows
once xs = by_key row_cmp (λ x. x) (λ k us. k ∷ []) xs

map_itself : {X : Type 0} (xs : List X) → map (λ x. x) xs ≡ xs
map_itself [] = refl
map_itself (x ∷ xs) = ap (λ ys. x ∷ ys) (map_itself xs)

once_is : (xs : Rows) → once xs ≡ distinct row_cmp xs
once_is xs =
    flat_map_single (λ x. x) (distinct row_cmp (map (λ x. x) xs)) ∙ map_itself (distinct row_cmp (map (λ x. x) xs)) ∙ ap (distinct row_cmp) (map_itself xs)

pub distinct_parts : (part : List Tree → ℕ) (n : ℕ) → ((row : List Tree) → part row < n) → (tasks : List Rows) (all : Rows) → IsPermutation (flat_map (λ t. t) tasks) all
    → IsPermutation (flat_map (λ p. distinct row_cmp (flat_map (in_part part p) tasks)) (range_with_len 0 n)) (distinct row_cmp all)
distinct_parts part n below tasks all h =
    subst (λ f. IsPermutation (flat_map f (range_with_len 0 n)) (distinct row_cmp all)) (λ i p. once_is (flat_map (in_part part p) tasks) i)
    (subst (IsPermutation (flat_map (λ p. once (flat_map (in_part part p) tasks)) (range_with_len 0 n))) (once_is all)
    (by_key_tasks row_cmp row_total row_same (λ x. x) (λ k us. k ∷ []) part n below (λ k us vs e. refl) tasks all h))

-- ---- the first rows

take_less : (m n : ℕ) (xs : Rows) → m ≤ n → take m (take n xs) ≡ take m xs
take_less zero n xs h = refl
take_less (suc m) zero xs h = absurd (omega (arith, h))
take_less (suc m) (suc n) [] h = refl
take_less (suc m) (suc n) (x ∷ xs) h = ap (λ us. x ∷ us) (take_less m n xs (omega (arith, h)))

front : (n k : ℕ) (xs ys zs : Rows) → n ≤ k → take n ys ≡ take n zs → take n (take k xs ++ ys) ≡ take n (xs ++ zs)
front zero k xs ys zs h same = refl
front (suc n) zero xs ys zs h same = absurd (omega (arith, h))
front (suc n) (suc k) [] ys zs h same = same
front (suc n) (suc k) (x ∷ xs) ys zs h same =
    ap (λ us. x ∷ us) (front n k xs ys zs (omega (arith, h)) (sym (take_less n (suc n) ys (omega arith)) ∙ ap (take n) same ∙ take_less n (suc n) zs (omega arith)))

pub take_tasks : (n : ℕ) (tasks : List Rows) → take n (flat_map (take n) tasks) ≡ take n (flat_map (λ t. t) tasks)
take_tasks n [] = refl
take_tasks n (t ∷ tasks) = front n n t (flat_map (take n) tasks) (flat_map (λ u. u) tasks) (omega arith) (take_tasks n tasks)

-- ---- rows that are kept

record AreAll (n : ℕ) (rows kept : Rows) : Type 0 where
  pub held : (row : List Tree) → times row_cmp row kept ≤ times row_cmp row rows
  pub size : min n (length kept) ≡ min n (length rows)

all_kept : (n : ℕ) (tasks kepts : List Rows) → EachKept n tasks kepts → AreAll n (flat_map (λ t. t) tasks) (flat_map (λ k. k) kepts)
all_kept n [] kepts h = subst (λ ks. AreAll n [] (flat_map (λ k. k) ks)) (sym h) (record { held = λ row. omega arith; size = refl })
all_kept n (rows ∷ tasks) kepts h = subst (λ ks. AreAll n (rows ++ flat_map (λ t. t) tasks) (flat_map (λ k. k) ks)) (sym h.2) (both h.0 h.1 h.3 (all_kept n tasks h.1 h.4))
  where
    both : (kept : Rows) (more : List Rows) → AreKept n rows kept → AreAll n (flat_map (λ t. t) tasks) (flat_map (λ k. k) more)
        → AreAll n (rows ++ flat_map (λ t. t) tasks) (kept ++ flat_map (λ k. k) more)
    both kept more own rest = record {
      held = λ row.
          let a = times-append row_cmp row kept (flat_map (λ k. k) more) in
          let b = times-append row_cmp row rows (flat_map (λ t. t) tasks) in
          let c = own.held row in
          let d = rest.held row in
          omega (arith, a, b, c, d);
      size =
          let a = length-append kept (flat_map (λ k. k) more) in
          let b = length-append rows (flat_map (λ t. t) tasks) in
          let c = own.size in
          let d = rest.size in
          omega (arith, a, b, c, d);
    }

pub kept_tasks : (n : ℕ) (tasks kepts : List Rows) (kept : Rows) → EachKept n tasks kepts → AreKept n (flat_map (λ k. k) kepts) kept → AreKept n (flat_map (λ t. t) tasks) kept
kept_tasks n tasks kepts kept h k =
    let all = all_kept n tasks kepts h in
    record {
      held = λ row. let a = k.held row in let b = all.held row in omega (arith, a, b);
      size = k.size ∙ all.size;
    }
