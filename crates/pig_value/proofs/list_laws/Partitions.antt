-- A list split into parts by number, and lists gathered by key: the parts together give what the whole gives.
use Rattle.std.specs.Prelude.{◌≡◌, ◌<◌, ◌≤◌, ◌+◌, ◌==◌, ℕ, Bool, true, false, ◌&&◌, List, [], ◌∷◌, ◌++◌, map, refl}
use Rattle.std.proofs.Common.{ap, sym, ◌∙◌, subst, arith, cond, suc, zero}
use Rattle.std.specs.Cmp.{IsTotalOrder}
use Rattle.std.specs.List.{flat_map, range_with_len, AllByRecursion}
use Rattle.std.specs.List.Sorted.{IsPermutation}
use Rattle.std.specs.Ordering.{is_eq, is_gt}
use Rattle.std.specs.declared.cmp.Ordering.{Ordering}
use Rattle.std.specs.declared.cmp.Ordering.TheVariants.{Equal}
use Rattle.std.proofs.lemmas.Bool.Decides.{nat_tests}
use Rattle.std.proofs.lemmas.List.Sorted.{IsPermutation-cons, IsPermutation-trans, IsPermutation-sym, IsPermutation-append_right, IsPermutation-middle, IsPermutation-map}
use Rattle.std.proofs.lemmas.List.Elements.{filter_agree}
use Rattle.pig_value.specs.Gathering.{in_part, with_key, by_key}
use Rattle.pig_value.specs.Sorts.{distinct, Ascends, sort}
use Rattle.pig_value.proofs.list_laws.Listing.{filter-map, filter-filter, filter-flat_map, flat_map_each, flat_map_none, flat_map_where, flat_map-flat_map, each_of_all, each-append, each_weaker, each_filtered}
use Rattle.pig_value.proofs.list_laws.Permutations.{IsPermutation-same, IsPermutation-filter, IsPermutation-flat_map}
use Rattle.pig_value.proofs.list_laws.Bags.{either_way, eq_is, one_way, filter_ascends, sort-filter, sort_is, sort_ascends, bag_once}
use Rattle.pig_value.proofs.list_laws.Distinct.{distinct_permuted, filter-distinct}

-- one more element, whose part is among those from `from` on

module _ {X : Type 0} (x : X) (rest : ℕ → List X) where
  abbrev grown : ℕ → ℕ → List X
  grown k p = cond (k == p) (x ∷ rest p) (rest p)

  elsewhere : (k from n : ℕ) → k < from → flat_map (grown k) (range_with_len from n) ≡ flat_map rest (range_with_len from n)
  elsewhere k from zero h = refl
  elsewhere k from (suc n) h =
      let not_here : (k == from) ≡ false = grind (arith, nat_tests) in
      λ i. cond (not_here i) (x ∷ rest from) (rest from) ++ elsewhere k (from + 1) n (omega arith) i

  placed : (k from n : ℕ) → from ≤ k → k < from + n → IsPermutation (x ∷ flat_map rest (range_with_len from n)) (flat_map (grown k) (range_with_len from n))
  placed k from zero h m = absurd (omega arith)
  placed k from (suc n) h m = either_way (k == from)
      (λ e.
      let is : k ≡ from = grind (arith, nat_tests) in
      IsPermutation-same (x ∷ flat_map rest (range_with_len from (suc n))) (flat_map (grown k) (range_with_len from (suc n)))
      (λ i. cond (sym e i) (x ∷ rest from) (rest from) ++ sym (elsewhere k (from + 1) n (omega arith)) i))
      (λ e.
      let other : from + 1 ≤ k = grind (arith, nat_tests) in
      let later = flat_map rest (range_with_len (from + 1) n) in
      let after = flat_map (grown k) (range_with_len (from + 1) n) in
      subst (λ us. IsPermutation (x ∷ (rest from ++ later)) (us ++ after)) (λ i. cond (sym e i) (x ∷ rest from) (rest from))
      (IsPermutation-trans (x ∷ (rest from ++ later)) (rest from ++ x ∷ later) (rest from ++ after)
      (IsPermutation-sym (rest from ++ x ∷ later) (x ∷ (rest from ++ later)) (IsPermutation-middle (rest from) x later))
      (IsPermutation-append_right (rest from) (x ∷ later) after (placed k (from + 1) n other (omega arith)))))

-- the parts of a list, one after another, hold what the list holds
module _ {X : Type 0} (part : X → ℕ) (n : ℕ) (below : (x : X) → part x < n) where
  pub parted : (xs : List X) → IsPermutation xs (flat_map (λ p. in_part part p xs) (range_with_len 0 n))
  parted [] =
      IsPermutation-same [] (flat_map (λ p. in_part part p []) (range_with_len 0 n))
      (sym (flat_map_none (λ p. in_part part p []) (range_with_len 0 n) (each_of_all (λ p. in_part part p [] ≡ []) (λ p. refl) (range_with_len 0 n))))
  parted (x ∷ xs) =
      IsPermutation-trans (x ∷ xs) (x ∷ flat_map (λ p. in_part part p xs) (range_with_len 0 n)) (flat_map (λ p. in_part part p (x ∷ xs)) (range_with_len 0 n))
      (IsPermutation-cons x xs (flat_map (λ p. in_part part p xs) (range_with_len 0 n)) (parted xs))
      (let within = below x in placed x (λ p. in_part part p xs) (part x) 0 n (omega arith) (omega arith))

module _ {K X Y : Type 0} (C : K → K → Ordering) (total : IsTotalOrder C) (tells : (k l : K) → C k l ≡ Equal → k ≡ l) (key : X → K) (make : K → List X → List Y) where
  -- a `make` that does not see the order of its elements gives the same of any order of the list
  pub by_key_permuted : ((k : K) (us vs : List X) → IsPermutation us vs → make k us ≡ make k vs)
      → (xs ys : List X) → IsPermutation xs ys → by_key C key make xs ≡ by_key C key make ys
  by_key_permuted alike xs ys h =
      ap (flat_map (λ k. make k (with_key C key k xs))) (distinct_permuted C total tells (map key xs) (map key ys) (IsPermutation-map key xs ys h))
      ∙ flat_map_each (λ k. make k (with_key C key k xs)) (λ k. make k (with_key C key k ys)) (distinct C (map key ys))
      (each_of_all (λ k. make k (with_key C key k xs) ≡ make k (with_key C key k ys))
      (λ k. alike k (with_key C key k xs) (with_key C key k ys) (IsPermutation-filter (λ x. is_eq (C (key x) k)) xs ys h)) (distinct C (map key ys)))

implied : (b c : Bool) → (c ≡ true → b ≡ true) → (b && c) ≡ c
implied true c h = refl
implied false true h = h refl
implied false false h = refl

module _ {K X Y : Type 0} (C : K → K → Ordering) (total : IsTotalOrder C) (tells : (k l : K) → C k l ≡ Equal → k ≡ l) (key : X → K) (make : K → List X → List Y) (part : K → ℕ) where
  -- the elements with a key are those of the key's part
  key_in_part : (p : ℕ) (k : K) → (part k == p) ≡ true → (xs : List X) → with_key C key k (in_part (λ x. part (key x)) p xs) ≡ with_key C key k xs
  key_in_part p k h xs =
      filter-filter (λ x. is_eq (C (key x) k)) (λ x. part (key x) == p) xs
      ∙ filter_agree (λ x. (part (key x) == p) && is_eq (C (key x) k)) (λ x. is_eq (C (key x) k))
      (λ x. implied (part (key x) == p) (is_eq (C (key x) k)) (λ e. ap (λ l. part l == p) (tells (key x) k (eq_is (C (key x) k) e)) ∙ h)) xs

  -- a part gives what its keys give of the whole
  one_part : (p : ℕ) (xs : List X)
      → by_key C key make (in_part (λ x. part (key x)) p xs) ≡ flat_map (λ k. make k (with_key C key k xs)) (in_part part p (distinct C (map key xs)))
  one_part p xs =
      ap (flat_map (λ k. make k (with_key C key k (in_part (λ x. part (key x)) p xs))))
      (ap (distinct C) (sym (filter-map (λ k. part k == p) key xs)) ∙ sym (filter-distinct C total tells (λ k. part k == p) (map key xs)))
      ∙ flat_map_where (λ k. part k == p) (λ k. make k (with_key C key k (in_part (λ x. part (key x)) p xs))) (λ k. make k (with_key C key k xs))
      (λ k h. ap (make k) (key_in_part p k h xs)) (distinct C (map key xs))

  module _ (n : ℕ) (below : (k : K) → part k < n) where
    -- gathered part by part, or all at once
    pub by_key_parts : (xs : List X) → IsPermutation (flat_map (λ p. by_key C key make (in_part (λ x. part (key x)) p xs)) (range_with_len 0 n)) (by_key C key make xs)
    by_key_parts xs =
        let G : K → List Y = λ k. make k (with_key C key k xs) in
        let D : List K = distinct C (map key xs) in
        let parts : List ℕ = range_with_len 0 n in
        subst (λ us. IsPermutation us (flat_map G D))
        (flat_map-flat_map G (λ p. in_part part p D) parts
        ∙ sym (flat_map_each (λ p. by_key C key make (in_part (λ x. part (key x)) p xs)) (λ p. flat_map G (in_part part p D)) parts
        (each_of_all (λ p. by_key C key make (in_part (λ x. part (key x)) p xs) ≡ flat_map G (in_part part p D)) (λ p. one_part p xs) parts)))
        (IsPermutation-flat_map G (flat_map (λ p. in_part part p D) parts) D
        (IsPermutation-sym D (flat_map (λ p. in_part part p D) parts) (parted part n below D)))

    -- the same where each part is brought together from the parts of several lists
    pub by_key_tasks : ((k : K) (us vs : List X) → IsPermutation us vs → make k us ≡ make k vs) → (tasks : List (List X)) (all : List X) → IsPermutation (flat_map (λ t. t) tasks) all
        → IsPermutation (flat_map (λ p. by_key C key make (flat_map (in_part (λ x. part (key x)) p) tasks)) (range_with_len 0 n)) (by_key C key make all)
    by_key_tasks alike tasks all h =
        let parts : List ℕ = range_with_len 0 n in
        subst (λ us. IsPermutation us (by_key C key make all))
        (flat_map_each (λ p. by_key C key make (in_part (λ x. part (key x)) p (flat_map (λ t. t) tasks))) (λ p. by_key C key make (flat_map (in_part (λ x. part (key x)) p) tasks)) parts
        (each_of_all (λ p. by_key C key make (in_part (λ x. part (key x)) p (flat_map (λ t. t) tasks)) ≡ by_key C key make (flat_map (in_part (λ x. part (key x)) p) tasks))
        (λ p. ap (by_key C key make) (filter-flat_map (λ x. part (key x) == p) (λ t. t) tasks)) parts))
        (subst (IsPermutation (flat_map (λ p. by_key C key make (in_part (λ x. part (key x)) p (flat_map (λ t. t) tasks))) parts))
        (by_key_permuted C total tells key make alike (flat_map (λ t. t) tasks) all h)
        (by_key_parts (flat_map (λ t. t) tasks)))

at_least : (m n : ℕ) → (m == n) ≡ true → n ≤ m
at_least m n h = grind (arith, nat_tests)

below_next : (m n k : ℕ) → (m == n) ≡ true → n + 1 ≤ k → m < k
below_next m n k h l = grind (arith, nat_tests)

-- a sorted list whose elements' parts rise with it is its parts in turn
module _ {X : Type 0} (R : X → X → Ordering) where
  pub ascends-append : (us vs : List X) → Ascends R us → Ascends R vs → AllByRecursion (λ u. AllByRecursion (λ v. is_gt (R u v) ≡ false) vs) us → Ascends R (us ++ vs)
  ascends-append [] vs h k m = k
  ascends-append (u ∷ []) [] h k m = (tt, tt)
  ascends-append (u ∷ []) (v ∷ vs) h k m = (m.0.0, k)
  ascends-append (u ∷ w ∷ us) vs h k m = (h.0, ascends-append (w ∷ us) vs h.1 k m.1)

module _ {X : Type 0} (R : X → X → Ordering) (total : IsTotalOrder R) (tells : (x y : X) → R x y ≡ Equal → x ≡ y) (part : X → ℕ) (rising : (x y : X) → is_gt (R x y) ≡ false → part x ≤ part y) where
  -- what stands in a lower part is not greater
  lower_first : (x y : X) → part x < part y → is_gt (R x y) ≡ false
  lower_first x y h = either_way (is_gt (R x y))
      (λ e. absurd (let back = rising y x (one_way R total x y e) in omega arith))
      (λ e. e)

  parts_within : (from n : ℕ) (xs : List X) → AllByRecursion (λ y. from ≤ part y) (flat_map (λ p. in_part part p xs) (range_with_len from n))
  parts_within from zero xs = tt
  parts_within from (suc n) xs =
      each-append (λ y. from ≤ part y) (in_part part from xs) (flat_map (λ p. in_part part p xs) (range_with_len (from + 1) n))
      (each_weaker (λ y. (part y == from) ≡ true) (λ y. from ≤ part y) (λ y h. at_least (part y) from h) (in_part part from xs) (each_filtered (λ y. part y == from) xs))
      (each_weaker (λ y. from + 1 ≤ part y) (λ y. from ≤ part y) (λ y h. omega arith) (flat_map (λ p. in_part part p xs) (range_with_len (from + 1) n)) (parts_within (from + 1) n xs))

  parts_ascend : (from n : ℕ) (xs : List X) → Ascends R xs → Ascends R (flat_map (λ p. in_part part p xs) (range_with_len from n))
  parts_ascend from zero xs h = tt
  parts_ascend from (suc n) xs h =
      ascends-append R (in_part part from xs) (flat_map (λ p. in_part part p xs) (range_with_len (from + 1) n))
      (filter_ascends R total (λ x. part x == from) xs h) (parts_ascend (from + 1) n xs h)
      (each_weaker (λ y. (part y == from) ≡ true) (λ u. AllByRecursion (λ v. is_gt (R u v) ≡ false) (flat_map (λ p. in_part part p xs) (range_with_len (from + 1) n)))
      (λ u e. each_weaker (λ v. from + 1 ≤ part v) (λ v. is_gt (R u v) ≡ false) (λ v m. lower_first u v (below_next (part u) from (part v) e m))
      (flat_map (λ p. in_part part p xs) (range_with_len (from + 1) n)) (parts_within (from + 1) n xs))
      (in_part part from xs) (each_filtered (λ y. part y == from) xs))

  module _ (n : ℕ) (below : (x : X) → part x < n) where
    -- sorting each part, one after another, sorts the whole
    pub slices_in_turn : (xs : List X) → flat_map (λ p. sort R (in_part part p xs)) (range_with_len 0 n) ≡ sort R xs
    slices_in_turn xs =
        let whole : List X = sort R xs in
        let slices : List X = flat_map (λ p. in_part part p whole) (range_with_len 0 n) in
        flat_map_each (λ p. sort R (in_part part p xs)) (λ p. in_part part p whole) (range_with_len 0 n)
        (each_of_all (λ p. sort R (in_part part p xs) ≡ in_part part p whole) (λ p. sort-filter R total (λ x. part x == p) tells xs) (range_with_len 0 n))
        ∙ sort_is R total tells whole slices (parted part n below whole) (parts_ascend 0 n whole (sort_ascends R total xs))
        ∙ bag_once R total xs
