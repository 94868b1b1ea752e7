-- A sorted list without what repeats is each of its elements once; and the steps of a loop that leaves repeats out.
use Rattle.std.specs.Prelude.{◌≡◌, ◌<◌, ◌≤◌, ◌+◌, ◌-◌, ℕ, true, false, not, List, [], ◌∷◌, ◌++◌, map, length, take, drop, refl, slice_index_or, slice_set, if◌then◌else◌}
use Rattle.std.proofs.Common.{ap, sym, ◌∙◌, subst, arith, cond, true≢false, inl, inr}
use Rattle.std.specs.Cmp.{IsTotalOrder}
use Rattle.std.specs.List.{swap, AllByRecursion}
use Rattle.std.specs.Ordering.{is_eq, is_gt, ordering_reverse}
use Rattle.std.specs.declared.cmp.Ordering.{Ordering}
use Rattle.std.specs.declared.cmp.Ordering.TheVariants.{Less, Equal, Greater}
use Rattle.std.proofs.lemmas.List.{append_assoc, drop_more, drop-set-lt, length-drop, length-set, map-append, take_all, take-set-le, take_more_set}
use Rattle.std.proofs.lemmas.Bool.{cases_lt}
use Rattle.pig_value.specs.Sorts.{put, sort, Rises, Ascends, times, distinct}
use Rattle.pig_value.proofs.list_laws.Bags.{either_way, eq_is, put_first, rises_all, sort_ascends, sort_permutes, times-cons}
use Rattle.pig_value.proofs.list_laws.Distinct.{distinct_permuted, distinct_same, each-distinct}
use Rattle.pig_value.proofs.list_laws.Listing.{each_weaker, filter_all}
use Rattle.pig_nested.specs.Apart.{apart, repeats}

tied : (r s : Ordering) → r ≡ ordering_reverse s → is_gt r ≡ false → is_gt s ≡ false → is_eq r ≡ true
tied r Less e h k = absurd (true≢false (sym (ap is_gt e) ∙ h))
tied r Equal e h k = ap is_eq e
tied r Greater e h k = absurd (true≢false k)

module _ {X : Type 0} (R : X → X → Ordering) where
  -- the first element is left out where it is the same as the next, and is kept elsewhere
  pub apart_out : (x : X) (xs : List X) → repeats R (x ∷ xs) ≡ true → apart R (x ∷ xs) ≡ apart R xs
  apart_out x xs h = ap (λ b. if b then apart R xs else x ∷ apart R xs) h

  pub apart_kept : (x : X) (xs : List X) → repeats R (x ∷ xs) ≡ false → apart R (x ∷ xs) ≡ x ∷ apart R xs
  apart_kept x xs h = ap (λ b. if b then apart R xs else x ∷ apart R xs) h

  first_rises : (x : X) (ys : List X) → AllByRecursion (λ y. is_gt (R x y) ≡ false) ys → Rises R x ys
  first_rises x [] h = tt
  first_rises x (y ∷ ys) h = h.0

module _ {X : Type 0} (R : X → X → Ordering) (total : IsTotalOrder R) (tells : (x y : X) → R x y ≡ Equal → x ≡ y) where
  -- an element that is less than the first of a sorted list is none of it
  none_ties : (x y : X) (xs : List X) → is_gt (R x y) ≡ false → is_eq (R x y) ≡ false → Ascends R (y ∷ xs)
      → AllByRecursion (λ z. not (is_eq (R x z)) ≡ true) (y ∷ xs)
  none_ties x y xs le ne h = (ap not ne, each_weaker (λ z. is_gt (R y z) ≡ false) (λ z. not (is_eq (R x z)) ≡ true) other xs (rises_all R total y xs h.0 h.1))
    where
      other : (z : X) → is_gt (R y z) ≡ false → not (is_eq (R x z)) ≡ true
      other z k = either_way (is_eq (R x z))
          (λ e.
          let back : is_gt (R y x) ≡ false = subst (λ u. is_gt (R y u) ≡ false) (sym (tells x z (eq_is (R x z) e))) k in
          absurd (true≢false (sym (tied (R x y) (R y x) (total.antisymm x y) le back) ∙ ne)))
          (λ e. ap not e)

  twice : (x y : X) (xs : List X) → x ≡ y → distinct R (x ∷ y ∷ xs) ≡ distinct R (y ∷ xs)
  twice x y xs same = distinct_same R total tells (x ∷ y ∷ xs) (y ∷ xs) (λ z.
      let a : times R z (x ∷ y ∷ xs) ≡ cond (is_eq (R z x)) 1 0 + times R z (y ∷ xs) = times-cons R z x (y ∷ xs) in
      let b : times R z (y ∷ xs) ≡ cond (is_eq (R z y)) 1 0 + times R z xs = times-cons R z y xs in
      let c : ◌≡◌ {A = ℕ} (cond (is_eq (R z x)) 1 0) (cond (is_eq (R z y)) 1 0) = ap (λ u. cond (is_eq (R z u)) 1 0) same in
      omega arith)

  before : (x y : X) (xs : List X) → is_eq (R x y) ≡ false → Ascends R (x ∷ y ∷ xs) → distinct R (x ∷ y ∷ xs) ≡ x ∷ distinct R (y ∷ xs)
  before x y xs ne h =
      let others = distinct R (y ∷ xs) in
      let none : AllByRecursion (λ z. not (is_eq (R x z)) ≡ true) others =
      each-distinct R (λ z. not (is_eq (R x z)) ≡ true) (y ∷ xs) (none_ties x y xs h.0 ne h.1) in
      let rising : AllByRecursion (λ z. is_gt (R x z) ≡ false) others =
      each-distinct R (λ z. is_gt (R x z) ≡ false) (y ∷ xs) (rises_all R total x (y ∷ xs) h.0 h.1) in
      ap (put R x) (filter_all (λ z. not (is_eq (R x z))) others none) ∙ put_first R x others (first_rises R x others rising)

  apart_is : (xs : List X) → Ascends R xs → apart R xs ≡ distinct R xs
  apart_is [] h = refl
  apart_is (x ∷ []) h = refl
  apart_is (x ∷ y ∷ xs) h = either_way (is_eq (R x y))
      (λ e. apart_out R x (y ∷ xs) e ∙ apart_is (y ∷ xs) h.1 ∙ sym (twice x y xs (tells x y (eq_is (R x y) e))))
      (λ e. apart_kept R x (y ∷ xs) e ∙ ap (λ l. x ∷ l) (apart_is (y ∷ xs) h.1) ∙ sym (before x y xs e h))

  -- each element once, by way of the sorted list
  pub distinct_sorted : (xs : List X) → apart R (sort R xs) ≡ distinct R xs
  distinct_sorted xs = apart_is (sort R xs) (sort_ascends R total xs) ∙ sym (distinct_permuted R total tells xs (sort R xs) (sort_permutes R xs))

-- ---- a loop that moves what is kept to the front

module _ {V : Type 0} where
  -- what is behind a place of a list
  pub rest_of : (xs seen : List V) (n : ℕ) → seen ≡ xs → take (length seen - n) (drop n seen) ≡ drop n xs
  rest_of xs seen n is = take_all (length seen - n) (drop n seen) (let e = length-drop n seen in omega arith) ∙ ap (drop n) is

  twice_set : (xs : List V) (k : ℕ) (a b : V) → k < length xs → take (k + 1) (slice_set (slice_set xs k a) k b) ≡ take k xs ++ b ∷ []
  twice_set xs k a b lt =
      let long : k < length (slice_set xs k a) = subst (λ n. k < n) (sym (length-set xs k a)) lt in
      take_more_set (slice_set xs k a) k b long ∙ ap (λ l. l ++ b ∷ []) (take-set-le k xs k a (omega arith))

  -- what a swap with an earlier place leaves in front, and behind
  swapped_front : (y : V) (ys : List V) (k i : ℕ) → k ≤ i → i < length (y ∷ ys) → take (k + 1) (swap (y ∷ ys) k i) ≡ take k (y ∷ ys) ++ slice_index_or (y ∷ ys) i y ∷ []
  swapped_front y ys k i le lt =
      let xs : List V = y ∷ ys in
      elim (cases_lt k i) [
        | inl below ↦
            take-set-le (k + 1) (slice_set xs k (slice_index_or xs i y)) i (slice_index_or xs k y) (omega arith)
            ∙ take_more_set xs k (slice_index_or xs i y) (omega arith)
        | inr above ↦
            let same : k ≡ i = omega arith in
            subst (λ j. take (k + 1) (slice_set (slice_set xs k (slice_index_or xs j y)) j (slice_index_or xs k y)) ≡ take k xs ++ slice_index_or xs j y ∷ []) same
            (twice_set xs k (slice_index_or xs k y) (slice_index_or xs k y) (omega arith))
      ]

  swapped_rest : (y : V) (ys : List V) (k i : ℕ) → k ≤ i → drop (i + 1) (swap (y ∷ ys) k i) ≡ drop (i + 1) (y ∷ ys)
  swapped_rest y ys k i le =
      drop-set-lt (i + 1) (slice_set (y ∷ ys) k (slice_index_or (y ∷ ys) i y)) i (slice_index_or (y ∷ ys) k y) (omega arith)
      ∙ drop-set-lt (i + 1) (y ∷ ys) k (slice_index_or (y ∷ ys) i y) (omega arith)

module _ {V X : Type 0} (R : X → X → Ordering) (f : V → X) where
  -- an element that is the same as the next is left out
  pub left_out : (xs : List V) (k i : ℕ) → i < length xs → repeats R (map f (drop i xs)) ≡ true
      → map f (take k xs) ++ apart R (map f (drop (i + 1) xs)) ≡ map f (take k xs) ++ apart R (map f (drop i xs))
  left_out [] k i lt h = absurd (omega arith)
  left_out (y ∷ ys) k i lt h =
      let xs : List V = y ∷ ys in
      let x : V = slice_index_or xs i y in
      let rest : List V = drop (i + 1) xs in
      let here : drop i xs ≡ x ∷ rest = drop_more xs i y lt in
      ap (λ l. map f (take k xs) ++ l)
      (sym (apart_out R (f x) (map f rest) (ap (λ l. repeats R (map f l)) (sym here) ∙ h)) ∙ ap (λ l. apart R (map f l)) (sym here))

  -- any other is swapped behind what is kept
  pub moved_up : (xs : List V) (k i : ℕ) → k ≤ i → i < length xs → repeats R (map f (drop i xs)) ≡ false
      → map f (take (k + 1) (swap xs k i)) ++ apart R (map f (drop (i + 1) (swap xs k i))) ≡ map f (take k xs) ++ apart R (map f (drop i xs))
  moved_up [] k i le lt h = absurd (omega arith)
  moved_up (y ∷ ys) k i le lt h =
      let xs : List V = y ∷ ys in
      let x : V = slice_index_or xs i y in
      let rest : List V = drop (i + 1) xs in
      let here : drop i xs ≡ x ∷ rest = drop_more xs i y lt in
      ap (λ l. map f l ++ apart R (map f (drop (i + 1) (swap xs k i)))) (swapped_front y ys k i le lt)
      ∙ ap (λ l. map f (take k xs ++ x ∷ []) ++ apart R (map f l)) (swapped_rest y ys k i le)
      ∙ ap (λ l. l ++ apart R (map f rest)) (map-append f (take k xs) (x ∷ []))
      ∙ append_assoc (map f (take k xs)) (f x ∷ []) (apart R (map f rest))
      ∙ ap (λ l. map f (take k xs) ++ l)
      (sym (apart_kept R (f x) (map f rest) (ap (λ l. repeats R (map f l)) (sym here) ∙ h)) ∙ ap (λ l. apart R (map f l)) (sym here))
