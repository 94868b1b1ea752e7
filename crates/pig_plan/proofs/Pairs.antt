-- An inner JOIN of two inputs pairs the rows of equal keys.
use Rattle.std.specs.Prelude.{◌≡◌, ◌≤◌, ◌+◌, ◌==◌, ℕ, Bool, true, false, not, ◌&&◌, List, [], ◌∷◌, ◌++◌, map, refl, zero, suc, if◌then◌else◌}
use Rattle.std.proofs.Common.{ap, sym, ◌∙◌, subst, arith, cond, append-nil}
use Rattle.std.specs.List.{filter, flat_map}
use Rattle.std.specs.List.Sorted.{IsPermutation}
use Rattle.std.specs.Ordering.{is_eq}
use Rattle.std.proofs.lemmas.Cmp.{tied_itself}
use Rattle.std.proofs.lemmas.List.Elements.{filter-append}
use Rattle.std.proofs.lemmas.List.{map-append}
use Rattle.std.proofs.lemmas.Simd.{map-map}
use Rattle.std.proofs.lemmas.List.Sorted.{IsPermutation-map, IsPermutation-sym, IsPermutation-trans}
use Rattle.pig_value.specs.declared.operators.Side.TheVariants as side
use Rattle.pig_value.specs.Gathering.{Entry, with_key}
use Rattle.pig_value.specs.Orders.{bag_of, row_cmp, tree_cmp}
use Rattle.pig_value.specs.Sorts.{distinct, times}
use Rattle.pig_value.specs.Trees.{Tree}
use Rattle.pig_value.proofs.OrderLaws.{row_same, row_total, tree_same, tree_total}
use Rattle.pig_value.proofs.list_laws.Bags.{eq_is, permutation_from_times, sort_permutes, times-append, times-cons, times-filter}
use Rattle.pig_value.proofs.list_laws.Distinct.{times-distinct}
use Rattle.pig_value.proofs.list_laws.Listing.{each_of_all, flat_map-flat_map, flat_map_each, flat_map_where}
use Rattle.pig_value.proofs.list_laws.Permutations.{IsPermutation-flat_map, IsPermutation-flat_map_each, IsPermutation-same}
use Rattle.pig_typed.specs.Products.{joined, product}
use Rattle.pig_plan.specs.ByKey.{entries_of_input, gathered, holds_null, join_of, rows_of}
use Rattle.pig_plan.specs.Laws.{joined_pair, key_in, pairs}
use Rattle.pig_plan.specs.Operators.{join_rows, keyed_entries}
use Rattle.pig_plan.specs.Plans.{Keyed}

-- ---- rows by key are all rows

abbrev Row : Type 0
Row = List Tree

-- n times t
abbrev n_times : ℕ → ℕ → ℕ
n_times zero t = 0
n_times (suc n) t = t + n_times n t

n_times_none : (n : ℕ) → n_times n 0 ≡ 0
n_times_none zero = refl
n_times_none (suc n) = let none = n_times_none n in omega (arith, none)

module _ (key : Row → Tree) where
  abbrev of_key : Tree → List Row → List Row
  of_key k rows = filter (λ x. is_eq (tree_cmp (key x) k)) rows

  abbrev by_keys : List Tree → List Row → List Row
  by_keys ks rows = flat_map (λ k. of_key k rows) ks

  one_more : (b : Bool) (m t n : ℕ) → n ≡ cond b 1 0 + m → cond b t 0 + n_times m t ≡ n_times n t
  one_more true m t n h = ap (λ i. n_times i t) (let e : suc m ≡ n = omega (arith, h) in e)
  one_more false m t n h = let e : 0 + n_times m t ≡ n_times m t = omega arith in e ∙ ap (λ i. n_times i t) (let e : m ≡ n = omega (arith, h) in e)

  times_by_keys : (z : Row) (rows : List Row) (ks : List Tree) → times row_cmp z (by_keys ks rows) ≡ n_times (times tree_cmp (key z) ks) (times row_cmp z rows)
  times_by_keys z rows [] = refl
  times_by_keys z rows (k ∷ ks) =
      times-append row_cmp z (of_key k rows) (by_keys ks rows)
      ∙ (λ i. times-filter row_cmp row_total row_same (λ x. is_eq (tree_cmp (key x) k)) z rows i + times_by_keys z rows ks i)
      ∙ one_more (is_eq (tree_cmp (key z) k)) (times tree_cmp (key z) ks) (times row_cmp z rows) (times tree_cmp (key z) (k ∷ ks)) (times-cons tree_cmp (key z) k ks)

  -- a row that is there has its key among the keys
  key_there : (z : Row) (rows : List Row) → 1 ≤ times row_cmp z rows → 1 ≤ times tree_cmp (key z) (map key rows)
  key_there z [] h = h
  key_there z (x ∷ rows) h = by_test (is_eq (row_cmp z x)) refl (key_there z rows)
    where
      by_test : (b : Bool) → is_eq (row_cmp z x) ≡ b → (1 ≤ times row_cmp z rows → 1 ≤ times tree_cmp (key z) (map key rows)) → 1 ≤ times tree_cmp (key z) (map key (x ∷ rows))
      by_test true e more =
          let same : z ≡ x = row_same z x (eq_is (row_cmp z x) e) in
          let one : is_eq (tree_cmp (key z) (key x)) ≡ true = ap (λ k. is_eq (tree_cmp (key z) k)) (sym (ap key same)) ∙ ap is_eq (tied_itself tree_total (key z)) in
          let counted = times-cons tree_cmp (key z) (key x) (map key rows) in
          let here : ◌≡◌ {A = ℕ} (cond (is_eq (tree_cmp (key z) (key x))) 1 0) 1 = ap (λ b. cond b 1 0) one in
          omega (arith, counted, here)
      by_test false e more =
          let counted = times-cons row_cmp z x rows in
          let none : ◌≡◌ {A = ℕ} (cond (is_eq (row_cmp z x)) 1 0) 0 = ap (λ b. cond b 1 0) e in
          let later = more (omega (arith, counted, none, h)) in
          let keyed = times-cons tree_cmp (key z) (key x) (map key rows) in
          omega (arith, later, keyed)

  -- where each key is there once, the rows by key are the rows
  pub by_keys_are : (ks : List Tree) (rows : List Row) → ((z : Row) → 1 ≤ times row_cmp z rows → times tree_cmp (key z) ks ≡ 1) → IsPermutation (by_keys ks rows) rows
  by_keys_are ks rows once = permutation_from_times row_cmp row_total row_same (by_keys ks rows) rows (λ z. times_by_keys z rows ks ∙ all_of z (times row_cmp z rows) refl)
    where
      all_of : (z : Row) (t : ℕ) → times row_cmp z rows ≡ t → n_times (times tree_cmp (key z) ks) (times row_cmp z rows) ≡ times row_cmp z rows
      all_of z zero e = ap (n_times (times tree_cmp (key z) ks)) e ∙ n_times_none (times tree_cmp (key z) ks) ∙ sym e
      all_of z (suc t) e = ap (λ n. n_times n (times row_cmp z rows)) (once z (omega (arith, e))) ∙ omega arith

-- ---- the rows of a key among the entries

module _ (f : Row → Tree) (j i : ℕ) (k : Tree) where
  abbrev entry : Row → Entry
  entry row = record { key = f row; input = j; row = row }

  abbrev these : List Entry → List Row
  these entries = map (λ e. e.row) (filter (λ e. e.input == i) (with_key tree_cmp (λ e. e.key) k entries))

  of_one : (rows : List Row) → these (entries_of_input f j rows) ≡ cond (j == i) (of_key f k rows) []
  of_one [] = nothing (j == i)
    where
      nothing : (c : Bool) → ◌≡◌ {A = List Row} [] (cond c [] [])
      nothing true = refl
      nothing false = refl
  of_one (x ∷ rows) = by_test (is_eq (tree_cmp (f x) k)) (with_key tree_cmp (λ e. e.key) k (entries_of_input f j rows)) (of_key f k rows) (of_one rows)
    where
      inner : (c : Bool) (left : List Entry) (more : List Row) → map (λ e. e.row) left ≡ cond c more [] → map (λ e. e.row) (cond c (entry x ∷ left) left) ≡ cond c (x ∷ more) []
      inner true left more h = ap (λ xs. x ∷ xs) h
      inner false left more h = h

      by_test : (b : Bool) (rest : List Entry) (more : List Row) → map (λ e. e.row) (filter (λ e. e.input == i) rest) ≡ cond (j == i) more []
          → map (λ e. e.row) (filter (λ e. e.input == i) (cond b (entry x ∷ rest) rest)) ≡ cond (j == i) (cond b (x ∷ more) more) []
      by_test true rest more h = inner (j == i) (filter (λ e. e.input == i) rest) more h
      by_test false rest more h = h

-- ---- what is made of a key

-- the rows of the second input with this key, behind a row of the first
abbrev matches : Bool → List Row → Row → List Row
matches null second x = if null then [] else map (λ y. x ++ y) second

joined_alone : (ys : List Row) → joined ys ([] ∷ []) ≡ ys
joined_alone [] = refl
joined_alone (y ∷ ys) = λ i. append-nil y i ∷ joined_alone ys i

made_of : (null : Bool) (first second bag_first bag_second : List Row) → IsPermutation first bag_first → IsPermutation second bag_second
    → IsPermutation (if null then [] else product (bag_first ∷ bag_second ∷ [])) (flat_map (matches null second) first)
made_of true first second bag_first bag_second h g = IsPermutation-same [] (flat_map (λ x. []) first) (sym (none first))
  where
    none : (xs : List Row) → ◌≡◌ {A = List Row} (flat_map (λ x. []) xs) []
    none [] = refl
    none (x ∷ xs) = none xs
made_of false first second bag_first bag_second h g =
    subst (λ ys. IsPermutation (joined bag_first ys) (joined first second)) (sym (joined_alone bag_second))
    (IsPermutation-trans (joined bag_first bag_second) (joined bag_first second) (joined first second)
    (IsPermutation-flat_map_each (λ x. map (λ y. x ++ y) bag_second) (λ x. map (λ y. x ++ y) second)
    (λ x. IsPermutation-map (λ y. x ++ y) bag_second second (IsPermutation-sym second bag_second g)) bag_first)
    (IsPermutation-flat_map (λ x. map (λ y. x ++ y) second) bag_first first (IsPermutation-sym first bag_first h)))

module _ (a b : Keyed) (rows : ℕ → List Row) where
  abbrev firsts : Tree → List Row
  firsts k = of_key (key_in a) k (rows a.input)

  abbrev seconds : Tree → List Row
  seconds k = of_key (key_in b) k (rows b.input)

  abbrev all : List Entry
  all = keyed_entries 0 (a ∷ b ∷ []) rows

  abbrev keys : List Tree
  keys = distinct tree_cmp (map (λ e. e.key) all)

  these_of_both : (i : ℕ) (k : Tree) → these (key_in a) 0 i k all ≡ these (key_in a) 0 i k (entries_of_input (key_in a) 0 (rows a.input)) ++ these (key_in b) 1 i k (entries_of_input (key_in b) 1 (rows b.input))
  these_of_both i k =
      let us : List Entry = entries_of_input (key_in a) 0 (rows a.input) in
      let vs : List Entry = entries_of_input (key_in b) 1 (rows b.input) in
      ap (λ ws. these (key_in a) 0 i k (us ++ ws)) (append-nil vs)
      ∙ ap (λ ws. map (λ e. e.row) (filter (λ e. e.input == i) ws)) (filter-append (λ e. is_eq (tree_cmp e.key k)) us vs)
      ∙ ap (map (λ e. e.row)) (filter-append (λ e. e.input == i) (with_key tree_cmp (λ e. e.key) k us) (with_key tree_cmp (λ e. e.key) k vs))
      ∙ map-append (λ e. e.row) (filter (λ e. e.input == i) (with_key tree_cmp (λ e. e.key) k us)) (filter (λ e. e.input == i) (with_key tree_cmp (λ e. e.key) k vs))

  first_is : (k : Tree) → these (key_in a) 0 0 k all ≡ firsts k
  first_is k = these_of_both 0 k ∙ (λ i. of_one (key_in a) 0 0 k (rows a.input) i ++ of_one (key_in b) 1 0 k (rows b.input) i) ∙ append-nil (firsts k)

  second_is : (k : Tree) → these (key_in a) 0 1 k all ≡ seconds k
  second_is k = these_of_both 1 k ∙ (λ i. of_one (key_in a) 0 1 k (rows a.input) i ++ of_one (key_in b) 1 1 k (rows b.input) i)

  made_is : (k : Tree) → IsPermutation (join_of 2 k (rows_of (with_key tree_cmp (λ e. e.key) k all))) (flat_map (matches (holds_null k) (seconds k)) (firsts k))
  made_is k =
      made_of (holds_null k) (firsts k) (seconds k) (rows_of (with_key tree_cmp (λ e. e.key) k all) 0) (rows_of (with_key tree_cmp (λ e. e.key) k all) 1)
      (subst (λ xs. IsPermutation (firsts k) (bag_of xs)) (sym (first_is k)) (sort_permutes row_cmp (firsts k)))
      (subst (λ xs. IsPermutation (seconds k) (bag_of xs)) (sym (second_is k)) (sort_permutes row_cmp (seconds k)))

  -- ---- and of all keys

  abbrev partners : Row → List Row
  partners x = matches (holds_null (key_in a x)) (seconds (key_in a x)) x

  of_its_key : (k : Tree) → flat_map (matches (holds_null k) (seconds k)) (firsts k) ≡ flat_map partners (firsts k)
  of_its_key k =
      flat_map_where (λ x. is_eq (tree_cmp (key_in a x) k)) (matches (holds_null k) (seconds k)) partners
      (λ x e. ap (λ l. matches (holds_null l) (seconds l) x) (sym (tree_same (key_in a x) k (eq_is (tree_cmp (key_in a x) k) e)))) (rows a.input)

  keys_once : (z : Row) → 1 ≤ times row_cmp z (rows a.input) → times tree_cmp (key_in a z) keys ≡ 1
  keys_once z h =
      let counted = times-distinct tree_cmp tree_total tree_same (key_in a z) (map (λ e. e.key) all) in
      let both : map (λ e. e.key) all ≡ map (key_in a) (rows a.input) ++ map (λ e. e.key) (entries_of_input (key_in b) 1 (rows b.input) ++ []) = map-append (λ e. e.key) (entries_of_input (key_in a) 0 (rows a.input)) (entries_of_input (key_in b) 1 (rows b.input) ++ [])
      ∙ ap (λ ks. ks ++ map (λ e. e.key) (entries_of_input (key_in b) 1 (rows b.input) ++ [])) (map-map (λ e. e.key) (λ row. record { key = key_in a row; input = 0; row = row }) (rows a.input)) in
      let there = key_there (key_in a) z (rows a.input) h in
      let more = times-append tree_cmp (key_in a z) (map (key_in a) (rows a.input)) (map (λ e. e.key) (entries_of_input (key_in b) 1 (rows b.input) ++ [])) in
      let many : 1 ≤ times tree_cmp (key_in a z) (map (λ e. e.key) all) = subst (λ ks. 1 ≤ times tree_cmp (key_in a z) ks) (sym both) (omega (arith, more, there)) in
      omega (arith, counted, many)

  partner_is : (null : Bool) (k : Tree) (x : Row) (ys : List Row)
      → matches null (of_key (key_in b) k ys) x ≡ flat_map (λ y. if is_eq (tree_cmp (key_in b y) k) && not null then (x ++ y) ∷ [] else []) ys
  partner_is true k x [] = refl
  partner_is false k x [] = refl
  partner_is null k x (y ∷ ys) = by_tests (is_eq (tree_cmp (key_in b y) k)) null (of_key (key_in b) k ys) _ (partner_is null k x ys)
    where
      by_tests : (t null : Bool) (found more : List Row) → matches null found x ≡ more → matches null (cond t (y ∷ found) found) x ≡ (if t && not null then (x ++ y) ∷ [] else []) ++ more
      by_tests true true found more h = h
      by_tests true false found more h = ap (λ zs. (x ++ y) ∷ zs) h
      by_tests false true found more h = h
      by_tests false false found more h = h

  pub joins_pairs : (width : ℕ → ℕ) → IsPermutation (join_rows side.Inner width (a ∷ b ∷ []) rows) (pairs a b rows)
  joins_pairs width =
      let grouped : List Row = flat_map partners (by_keys (key_in a) keys (rows a.input)) in
      IsPermutation-trans (gathered (join_of 2) all) (flat_map (λ k. flat_map (matches (holds_null k) (seconds k)) (firsts k)) keys) (pairs a b rows)
      (IsPermutation-flat_map_each (λ k. join_of 2 k (rows_of (with_key tree_cmp (λ e. e.key) k all))) (λ k. flat_map (matches (holds_null k) (seconds k)) (firsts k)) made_is keys)
      (IsPermutation-trans (flat_map (λ k. flat_map (matches (holds_null k) (seconds k)) (firsts k)) keys) (flat_map partners (by_keys (key_in a) keys (rows a.input))) (pairs a b rows)
      (IsPermutation-same (flat_map (λ k. flat_map (matches (holds_null k) (seconds k)) (firsts k)) keys) (flat_map partners (by_keys (key_in a) keys (rows a.input)))
      (flat_map_each (λ k. flat_map (matches (holds_null k) (seconds k)) (firsts k)) (λ k. flat_map partners (firsts k)) keys (each_of_all _ of_its_key keys) ∙ sym (flat_map-flat_map partners firsts keys)))
      (IsPermutation-trans (flat_map partners (by_keys (key_in a) keys (rows a.input))) (flat_map partners (rows a.input)) (pairs a b rows)
      (IsPermutation-flat_map partners (by_keys (key_in a) keys (rows a.input)) (rows a.input) (by_keys_are (key_in a) keys (rows a.input) keys_once))
      (IsPermutation-same (flat_map partners (rows a.input)) (pairs a b rows)
      (flat_map_each partners (λ x. flat_map (joined_pair a b x) (rows b.input)) (rows a.input)
      (each_of_all _ (λ x. partner_is (holds_null (key_in a x)) (key_in a x) x (rows b.input)) (rows a.input))))))
