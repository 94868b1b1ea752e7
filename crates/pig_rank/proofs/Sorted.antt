-- Lists that are sorted by an order which may rank different elements as equal: what stands before an element, how many elements have the
-- last one's key, and how many keys two parts have together.
use Rattle.std.specs.Prelude.{◌≡◌, ◌+◌, ◌≤◌, ℕ, suc, Bool, true, false, not, Option, Some, None, List, [], ◌∷◌, ◌++◌, length, map, refl}
use Rattle.std.proofs.Common.{ap, sym, ◌∙◌, subst, arith, cond, true≢false}
use Rattle.std.specs.Cmp.{IsTotalOrder}
use Rattle.std.specs.List.{filter, last_or, AllByRecursion}
use Rattle.std.specs.List.Sorted.{IsPermutation}
use Rattle.std.specs.Option.{option_map_or}
use Rattle.std.specs.Ordering.{is_eq, is_gt, is_lt, ordering_reverse}
use Rattle.std.specs.declared.cmp.Ordering.{Ordering}
use Rattle.std.specs.declared.cmp.Ordering.TheVariants.{Less, Equal, Greater}
use Rattle.std.proofs.lemmas.Cmp.{alike_right, tied_itself}
use Rattle.std.proofs.lemmas.List.{append_assoc, append-nil, length-append}
use Rattle.std.proofs.lemmas.List.Elements.{filter-append}
use Rattle.std.proofs.lemmas.List.Filters.{length-filter_both}
use Rattle.std.proofs.lemmas.List.Sorted.{IsPermutation-map, IsPermutation-middle, length_permutation}
use Rattle.pig_value.specs.Sorts.{Ascends, distinct, put, times}
use Rattle.pig_value.proofs.list_laws.Bags.{either_way, eq_is, gt_is_lt, put_permutes, rises_all, times-append}
use Rattle.pig_value.proofs.list_laws.Distinct.{distinct_permuted, filter-distinct}
use Rattle.pig_value.proofs.list_laws.Listing.{each_weaker, filter-map, filter_all, filter_none, some_same}

-- ---- lists

module _ {X : Type 0} where
  pub filter_each : (p q : X → Bool) (xs : List X) → AllByRecursion (λ x. p x ≡ q x) xs → filter p xs ≡ filter q xs
  filter_each p q [] h = refl
  filter_each p q (x ∷ xs) h = ap (λ b. cond b (x ∷ filter p xs) (filter p xs)) h.0 ∙ ap (λ ys. cond (q x) (x ∷ ys) ys) (filter_each p q xs h.1)

  pub filter_same : (p q : X → Bool) → ((x : X) → p x ≡ q x) → (xs : List X) → filter p xs ≡ filter q xs
  filter_same p q same [] = refl
  filter_same p q same (x ∷ xs) = ap (λ b. cond b (x ∷ filter p xs) (filter p xs)) (same x) ∙ ap (λ ys. cond (q x) (x ∷ ys) ys) (filter_same p q same xs)

  pub at_middle : (P : X → Type 0) (xs : List X) (y : X) (ys : List X) → AllByRecursion P (xs ++ y ∷ ys) → P y
  at_middle P [] y ys h = h.0
  at_middle P (x ∷ xs) y ys h = at_middle P xs y ys h.1

  pub each_middle : (P : X → Type 0) (xs : List X) (y : X) → AllByRecursion P xs → P y → AllByRecursion P (xs ++ y ∷ [])
  each_middle P [] y h k = (k, tt)
  each_middle P (x ∷ xs) y h k = (h.0, each_middle P xs y h.1 k)

  -- the last element
  pub last_some : (x : X) (xs : List X) → (m : X) × (last_or (Some x) xs ≡ Some m)
  last_some x [] = (x, refl)
  last_some x (y ∷ xs) = last_some y xs

  pub last_split : (xs : List X) (m : X) → last_or None xs ≡ Some m → (front : List X) × (xs ≡ front ++ m ∷ [])
  last_split [] m h = absurd (cc)
  last_split (x ∷ []) m h = ([], ap (λ y. y ∷ []) (some_same x m h))
  last_split (x ∷ y ∷ xs) m h = let rest = last_split (y ∷ xs) m h in (x ∷ rest.0, ap (λ l. x ∷ l) rest.1)

  pub last_behind : (o : Option X) (xs : List X) (y : X) (ys : List X) → last_or o (xs ++ y ∷ ys) ≡ last_or (Some y) ys
  last_behind o [] y ys = refl
  last_behind o (x ∷ xs) y ys = last_behind (Some x) xs y ys

-- ---- an order

turned : (r s : Ordering) → s ≡ ordering_reverse r → is_gt r ≡ false → is_eq s ≡ not (is_lt r)
turned Less s e h = ap is_eq e
turned Equal s e h = ap is_eq e
turned Greater s e h = absurd (true≢false h)

neither : (r s : Ordering) → r ≡ ordering_reverse s → is_gt r ≡ false → is_gt s ≡ false → is_eq r ≡ true
neither r Less e h k = absurd (true≢false (sym (ap is_gt e) ∙ h))
neither r Equal e h k = ap is_eq e
neither r Greater e h k = absurd (true≢false k)

module _ {X : Type 0} (R : X → X → Ordering) (total : IsTotalOrder R) where
  tied_or_less : (x y : X) → is_gt (R x y) ≡ false → is_eq (R y x) ≡ not (is_lt (R x y))
  tied_or_less x y h = turned (R x y) (R y x) (total.antisymm y x) h

  both_ways : (x y : X) → is_gt (R x y) ≡ false → is_gt (R y x) ≡ false → is_eq (R x y) ≡ true
  both_ways x y h k = neither (R x y) (R y x) (total.antisymm x y) h k

  -- what is no greater than one that stands before another does not tie with that
  apart_behind : (x y z : X) → is_gt (R x y) ≡ false → is_eq (R x y) ≡ false → is_gt (R y z) ≡ false → is_eq (R x z) ≡ false
  apart_behind x y z low apart up = either_way (is_eq (R x z))
      (λ e. absurd (true≢false (sym (both_ways x y low (ap is_gt (alike_right total x z y (eq_is (R x z) e)) ∙ up)) ∙ apart)))
      (λ e. e)

  apart_before : (z m l : X) → is_gt (R z m) ≡ false → is_gt (R m l) ≡ false → is_eq (R m l) ≡ false → is_eq (R l z) ≡ false
  apart_before z m l low up apart = either_way (is_eq (R l z))
      (λ e. absurd (true≢false (sym (both_ways m l up (ap is_gt (total.congr l z m (eq_is (R l z) e)) ∙ low)) ∙ apart)))
      (λ e. e)

  -- ---- sorted lists

  pub front_ascends : (xs ys : List X) → Ascends R (xs ++ ys) → Ascends R xs
  front_ascends [] ys h = tt
  front_ascends (x ∷ []) ys h = (tt, tt)
  front_ascends (x ∷ y ∷ xs) ys h = (h.0, front_ascends (y ∷ xs) ys h.1)

  pub back_ascends : (xs ys : List X) → Ascends R (xs ++ ys) → Ascends R ys
  back_ascends [] ys h = h
  back_ascends (x ∷ xs) ys h = back_ascends xs ys h.1

  pub none_greater : (xs : List X) (y : X) (ys : List X) → Ascends R (xs ++ y ∷ ys) → AllByRecursion (λ x. is_gt (R x y) ≡ false) xs
  none_greater [] y ys h = tt
  none_greater (x ∷ xs) y ys h = (at_middle (λ z. is_gt (R x z) ≡ false) xs y ys (rises_all R total x (xs ++ y ∷ ys) h.0 h.1), none_greater xs y ys h.1)

  pub none_less : (xs : List X) (y : X) (ys : List X) → Ascends R (xs ++ y ∷ ys) → AllByRecursion (λ z. is_gt (R y z) ≡ false) ys
  none_less xs y ys h = let behind = back_ascends xs (y ∷ ys) h in rises_all R total y ys behind.0 behind.1

  not_itself : (y : X) → is_lt (R y y) ≡ false
  not_itself y = ap is_lt (tied_itself total y)

  -- before an element stand only elements in front of it
  pub before_it : (xs : List X) (y : X) (ys : List X) → Ascends R (xs ++ y ∷ ys) → filter (λ x. is_lt (R x y)) (xs ++ y ∷ ys) ≡ filter (λ x. is_lt (R x y)) xs
  before_it xs y ys h =
      filter-append (λ x. is_lt (R x y)) xs (y ∷ ys)
      ∙ ap (λ zs. filter (λ x. is_lt (R x y)) xs ++ zs)
      (filter_none (λ x. is_lt (R x y)) (y ∷ ys)
      (not_itself y, each_weaker (λ z. is_gt (R y z) ≡ false) (λ z. is_lt (R z y) ≡ false) (λ z k. sym (gt_is_lt R total y z) ∙ k) ys (none_less xs y ys h)))
      ∙ append-nil (filter (λ x. is_lt (R x y)) xs)

  -- elements that are no greater than one stand before it or tie with it
  pub before_or_tied : (xs : List X) (y : X) → AllByRecursion (λ x. is_gt (R x y) ≡ false) xs → length (filter (λ x. is_lt (R x y)) xs) + times R y xs ≡ length xs
  before_or_tied xs y h =
      ap (λ zs. length (filter (λ x. is_lt (R x y)) xs) + length zs)
      (filter_each (λ x. is_eq (R y x)) (λ x. not (is_lt (R x y))) xs (each_weaker (λ x. is_gt (R x y) ≡ false) (λ x. is_eq (R y x) ≡ not (is_lt (R x y))) (λ x k. tied_or_less x y k) xs h))
      ∙ length-filter_both (λ x. is_lt (R x y)) (λ x. not (is_lt (R x y))) (λ x. refl) xs

  pub times_alone : (y : X) → times R y (y ∷ []) ≡ 1
  times_alone y = ap (λ b. length (cond b (y ∷ []) [])) (ap is_eq (tied_itself total y))

  -- up to an element stand those before it and those that tie with it
  pub up_to_it : (xs : List X) (y : X) (ys : List X) → Ascends R (xs ++ y ∷ ys)
      → length (filter (λ x. is_lt (R x y)) (xs ++ y ∷ ys)) + times R y (xs ++ y ∷ []) ≡ length (xs ++ y ∷ [])
  up_to_it xs y ys h =
      let before : length (filter (λ x. is_lt (R x y)) (xs ++ y ∷ ys)) ≡ length (filter (λ x. is_lt (R x y)) xs) = ap length (before_it xs y ys h) in
      let tied : times R y (xs ++ y ∷ []) ≡ times R y xs + times R y (y ∷ []) = times-append R y xs (y ∷ []) in
      let alone : times R y (y ∷ []) ≡ 1 = times_alone y in
      let size : length (xs ++ y ∷ []) ≡ length xs + 1 = length-append xs (y ∷ []) in
      let split : length (filter (λ x. is_lt (R x y)) xs) + times R y xs ≡ length xs = before_or_tied xs y (none_greater xs y ys h) in
      omega (arith, before, tied, alone, size, split)

  -- ---- the elements that tie with the last one

  abbrev pub tail : List X → ℕ
  tail xs = option_map_or (λ m. times R m xs) (last_or None xs) 0

  abbrev pub ties : Option X → X → Bool
  ties o y = option_map_or (λ x. is_eq (R x y)) o false

  times_same : (m l : X) (xs : List X) → is_eq (R m l) ≡ true → times R l xs ≡ times R m xs
  times_same m l xs e = ap length (filter_same (λ z. is_eq (R l z)) (λ z. is_eq (R m z)) (λ z. ap is_eq (sym (total.congr m l z (eq_is (R m l) e)))) xs)

  -- those up to the last one
  up_to_last : (xs : List X) (m : X) → last_or None xs ≡ Some m → Ascends R xs → AllByRecursion (λ z. is_gt (R z m) ≡ false) xs
  up_to_last xs m is h =
      let split = last_split xs m is in
      let low = none_greater split.0 m [] (subst (Ascends R) split.1 h) in
      subst (AllByRecursion (λ z. is_gt (R z m) ≡ false)) (sym split.1) (each_middle (λ z. is_gt (R z m) ≡ false) split.0 m low (ap is_gt (tied_itself total m)))

  tied_behind : (xs : List X) (m l : X) → last_or None xs ≡ Some m → Ascends R xs → is_gt (R m l) ≡ false → times R l xs ≡ cond (is_eq (R m l)) (times R m xs) 0
  tied_behind xs m l is h up = either_way (is_eq (R m l))
      (λ e. times_same m l xs e ∙ sym (ap (λ b. cond b (times R m xs) 0) e))
      (λ e. ap length (filter_none (λ z. is_eq (R l z)) xs (each_weaker (λ z. is_gt (R z m) ≡ false) (λ z. is_eq (R l z) ≡ false) (λ z low. apart_before z m l low up e) xs (up_to_last xs m is h)))
      ∙ sym (ap (λ b. cond b (times R m xs) 0) e))

  -- the last one of a part behind is no less than that of a part before it
  last_rises : (xs ys : List X) (m l : X) → last_or None xs ≡ Some m → last_or None ys ≡ Some l → Ascends R (xs ++ ys) → is_gt (R m l) ≡ false
  last_rises xs ys m l is ends h =
      let front = last_split xs m is in
      let back = last_split ys l ends in
      let whole : xs ++ ys ≡ front.0 ++ m ∷ (back.0 ++ l ∷ []) = (λ i. front.1 i ++ back.1 i) ∙ append_assoc front.0 (m ∷ []) (back.0 ++ l ∷ []) in
      at_middle (λ z. is_gt (R m z) ≡ false) back.0 l [] (none_less front.0 m (back.0 ++ l ∷ []) (subst (Ascends R) whole h))

  -- those of two parts, where the second has a last one
  pub tail_joined : (xs ys : List X) (l : X) → last_or None ys ≡ Some l → last_or None (xs ++ ys) ≡ Some l → Ascends R (xs ++ ys)
      → tail (xs ++ ys) ≡ cond (ties (last_or None xs) l) (tail xs) 0 + tail ys
  tail_joined xs ys l ends whole_ends h =
      ap (λ o. option_map_or (λ m. times R m (xs ++ ys)) o 0) whole_ends
      ∙ times-append R l xs ys
      ∙ ap (λ n. n + times R l ys) (of_front xs ys h)
      ∙ ap (λ o. cond (ties (last_or None xs) l) (tail xs) 0 + option_map_or (λ m. times R m ys) o 0) (sym ends)
    where
      of_front : (us vs : List X) → Ascends R (us ++ ys) → times R l us ≡ cond (ties (last_or None us) l) (tail us) 0
      of_front [] vs k = refl
      of_front (u ∷ us) vs k =
          let found = last_some u us in
          tied_behind (u ∷ us) found.0 l found.1 (front_ascends (u ∷ us) ys k) (last_rises (u ∷ us) ys found.0 l found.1 ends k)
          ∙ sym (ap (λ o. cond (ties o l) (option_map_or (λ m. times R m (u ∷ us)) o 0) 0) found.1)

-- ---- keys, of which two are the same where the order ties the elements

module _ {X K : Type 0} (R : X → X → Ordering) (total : IsTotalOrder R) (C : K → K → Ordering) (key_total : IsTotalOrder C) (tells : (k l : K) → C k l ≡ Equal → k ≡ l)
    (key : X → K) (tied : (x y : X) → is_eq (C (key x) (key y)) ≡ is_eq (R x y)) where
  abbrev pub keys_in : List X → ℕ
  keys_in xs = length (distinct C (map key xs))

  -- a key, and those of the elements that don't tie with its element
  keys_more : (y : X) (xs : List X) → keys_in (y ∷ xs) ≡ suc (keys_in (filter (λ x. not (is_eq (R y x))) xs))
  keys_more y xs =
      length_permutation (key y ∷ filter (λ l. not (is_eq (C (key y) l))) (distinct C (map key xs))) (put C (key y) (filter (λ l. not (is_eq (C (key y) l))) (distinct C (map key xs))))
      (put_permutes C (key y) (filter (λ l. not (is_eq (C (key y) l))) (distinct C (map key xs))))
      ∙ ap (λ ls. suc (length ls)) (filter-distinct C key_total tells (λ l. not (is_eq (C (key y) l))) (map key xs))
      ∙ ap (λ ls. suc (length (distinct C ls))) (filter-map (λ l. not (is_eq (C (key y) l))) key xs)
      ∙ ap (λ zs. suc (keys_in zs)) (filter_same (λ x. not (is_eq (C (key y) (key x)))) (λ x. not (is_eq (R y x))) (λ x. ap not (tied y x)) xs)

  pub some_key : (y : X) (xs : List X) → 1 ≤ keys_in (y ∷ xs)
  some_key y xs = let more = keys_more y xs in omega (arith, more)

  -- up to an element there is one key more than before it
  pub keys_up_to_it : (xs : List X) (y : X) (ys : List X) → Ascends R (xs ++ y ∷ ys) → keys_in (xs ++ y ∷ []) ≡ suc (keys_in (filter (λ x. is_lt (R x y)) (xs ++ y ∷ ys)))
  keys_up_to_it xs y ys h =
      ap length (distinct_permuted C key_total tells (map key (xs ++ y ∷ [])) (map key (y ∷ xs)) (IsPermutation-map key (xs ++ y ∷ []) (y ∷ xs)
      (subst (λ zs. IsPermutation (xs ++ y ∷ []) (y ∷ zs)) (append-nil xs) (IsPermutation-middle xs y []))))
      ∙ keys_more y xs
      ∙ ap (λ zs. suc (keys_in zs))
      (filter_each (λ x. not (is_eq (R y x))) (λ x. is_lt (R x y)) xs
      (each_weaker (λ x. is_gt (R x y) ≡ false) (λ x. not (is_eq (R y x)) ≡ is_lt (R x y)) (λ x k. ap not (tied_or_less R total x y k) ∙ twice (is_lt (R x y))) xs (none_greater R total xs y ys h))
      ∙ sym (before_it R total xs y ys h))
    where
      twice : (b : Bool) → not (not b) ≡ b
      twice true = refl
      twice false = refl

  -- a key once more, and a new one
  keys_again : (x y : X) (zs : List X) → is_eq (R x y) ≡ true → keys_in (x ∷ y ∷ zs) ≡ keys_in (y ∷ zs)
  keys_again x y zs e =
      keys_more x (y ∷ zs)
      ∙ ap (λ b. suc (keys_in (cond (not b) (y ∷ filter (λ z. not (is_eq (R x z))) zs) (filter (λ z. not (is_eq (R x z))) zs)))) e
      ∙ ap (λ us. suc (keys_in us)) (filter_same (λ z. not (is_eq (R x z))) (λ z. not (is_eq (R y z))) (λ z. ap (λ r. not (is_eq r)) (total.congr x y z (eq_is (R x y) e))) zs)
      ∙ sym (keys_more y zs)

  keys_new : (x : X) (ys : List X) → AllByRecursion (λ z. is_eq (R x z) ≡ false) ys → keys_in (x ∷ ys) ≡ suc (keys_in ys)
  keys_new x ys h =
      keys_more x ys
      ∙ ap (λ zs. suc (keys_in zs)) (filter_all (λ z. not (is_eq (R x z))) ys (each_weaker (λ z. is_eq (R x z) ≡ false) (λ z. not (is_eq (R x z)) ≡ true) (λ z e. ap not e) ys h))

  -- 1 where the first of a list has the key of the last one before it
  abbrev pub shared : Option X → List X → ℕ
  shared o [] = 0
  shared o (y ∷ ys) = cond (ties R total o y) 1 0

  keys_first : (x : X) (ys : List X) → Ascends R (x ∷ ys) → keys_in (x ∷ ys) + shared (Some x) ys ≡ suc (keys_in ys)
  keys_first x [] h = refl
  keys_first x (y ∷ ys) h = either_way (is_eq (R x y))
      (λ e. let same : keys_in (x ∷ y ∷ ys) ≡ keys_in (y ∷ ys) = keys_again x y ys e in
      let one : ◌≡◌ {A = ℕ} (cond (is_eq (R x y)) 1 0) 1 = ap (λ b. cond b 1 0) e in
      sums (keys_in (x ∷ y ∷ ys)) (keys_in (y ∷ ys)) (cond (is_eq (R x y)) 1 0) same one)
      (λ e. let new : keys_in (x ∷ y ∷ ys) ≡ suc (keys_in (y ∷ ys)) =
      keys_new x (y ∷ ys) (e, each_weaker (λ z. is_gt (R y z) ≡ false) (λ z. is_eq (R x z) ≡ false) (λ z up. apart_behind R total x y z h.0 e up) ys (rises_all R total y ys h.1.0 h.1.1)) in
      let none : ◌≡◌ {A = ℕ} (cond (is_eq (R x y)) 1 0) 0 = ap (λ b. cond b 1 0) e in
      others (keys_in (x ∷ y ∷ ys)) (keys_in (y ∷ ys)) (cond (is_eq (R x y)) 1 0) new none)
    where
      sums : (a b c : ℕ) → a ≡ b → c ≡ 1 → a + c ≡ suc b
      sums a b c h k = omega (arith, h, k)

      others : (a b c : ℕ) → a ≡ suc b → c ≡ 0 → a + c ≡ suc b
      others a b c h k = omega (arith, h, k)

  -- the keys of two parts, where one may stand in both
  pub keys_joined : (xs ys : List X) → Ascends R (xs ++ ys) → keys_in (xs ++ ys) + shared (last_or None xs) ys ≡ keys_in xs + keys_in ys
  keys_joined [] [] h = refl
  keys_joined [] (y ∷ ys) h = none (keys_in (y ∷ ys))
    where
      none : (a : ℕ) → a + 0 ≡ 0 + a
      none a = omega arith
  keys_joined (x ∷ []) ys h = one (keys_in (x ∷ ys) + shared (Some x) ys) (keys_in ys) (keys_first x ys h)
    where
      one : (a b : ℕ) → a ≡ suc b → a ≡ 1 + b
      one a b e = omega (arith, e)
  keys_joined (x ∷ y ∷ xs) ys h =
      sums (keys_in (x ∷ y ∷ (xs ++ ys))) (cond (is_eq (R x y)) 1 0) (keys_in (y ∷ (xs ++ ys))) (keys_in (x ∷ y ∷ xs)) (keys_in (y ∷ xs)) (shared (last_or None (y ∷ xs)) ys) (keys_in ys)
      (keys_first x (y ∷ (xs ++ ys)) h) (keys_first x (y ∷ xs) (front_ascends R total (x ∷ y ∷ xs) ys h)) (keys_joined (y ∷ xs) ys h.1)
    where
      sums : (whole tie rest part first between last : ℕ) → whole + tie ≡ suc rest → part + tie ≡ suc first → rest + between ≡ first + last → whole + between ≡ part + last
      sums whole tie rest part first between last a b c = omega (arith, a, b, c)
