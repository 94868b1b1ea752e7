-- Laws of sorted lists over an order that is total and tells different elements apart: sorting forgets the order of a list and
-- nothing else, so two lists are equal as bags exactly where they are equal once sorted.
use Rattle.std.specs.Prelude.{zero, suc, take, drop, ◌≡◌, ◌<◌, ◌≤◌, ◌+◌, ℕ, Bool, true, false, List, [], ◌∷◌, ◌++◌, map, length, refl, slice_index_or, if◌then◌else◌}
use Rattle.std.proofs.Common.{ap, sym, ◌∙◌, subst, arith, cond, true≢false, add-one}
use Rattle.std.specs.Cmp.{IsTotalOrder}
use Rattle.std.proofs.Math.Bool.{Bool-set}
use Rattle.std.specs.List.{filter, AllByRecursion}
use Rattle.std.specs.List.Sorted.{IsPermutation, IsSortedBy}
use Rattle.std.specs.Ordering.{is_gt, is_lt, is_eq, ordering_reverse}
use Rattle.std.specs.declared.cmp.Ordering.{Ordering}
use Rattle.std.specs.declared.cmp.Ordering.TheVariants.{Less, Equal, Greater}
use Rattle.std.proofs.lemmas.Cmp.{upto, tied_itself}
use Rattle.std.proofs.lemmas.List.Sorted.{IsPermutation-refl, IsPermutation-cons, IsPermutation-trans, IsPermutation-sym, IsPermutation-append, IsPermutation-map, length_permutation}
use Rattle.std.proofs.lemmas.List.Elements.{filter-append}
use Rattle.std.proofs.lemmas.List.{length-append}
use Rattle.pig_value.specs.Sorts.{put, sort, Rises, Ascends, times}
use Rattle.pig_value.proofs.list_laws.Listing.{each-filter}
use Rattle.pig_value.proofs.list_laws.Permutations.{along_permutation, IsPermutation-filter, IsPermutation-same, neighbours}

-- a test is true or false
pub either_way : {G : Type 0} (b : Bool) → (b ≡ true → G) → (b ≡ false → G) → G
either_way true f g = f refl
either_way false f g = g refl

back_flips : (r s : Ordering) → r ≡ ordering_reverse s → is_gt r ≡ is_lt s
back_flips r Less h = ap is_gt h
back_flips r Equal h = ap is_gt h
back_flips r Greater h = ap is_gt h

neither_is : (r s : Ordering) → r ≡ ordering_reverse s → is_gt r ≡ false → is_gt s ≡ false → r ≡ Equal
neither_is r Less h k m = absurd (true≢false (sym (ap is_gt h) ∙ k))
neither_is r Equal h k m = h
neither_is r Greater h k m = absurd (true≢false m)

not_both : (r s : Ordering) → r ≡ ordering_reverse s → is_gt r ≡ true → is_gt s ≡ false
not_both r Less h k = refl
not_both r Equal h k = refl
not_both r Greater h k = absurd (true≢false (sym k ∙ ap is_gt h))

pub eq_is : (r : Ordering) → is_eq r ≡ true → r ≡ Equal
eq_is Less h = absurd (true≢false (sym h))
eq_is Equal h = refl
eq_is Greater h = absurd (true≢false (sym h))

module _ {X : Type 0} (R : X → X → Ordering) where
  -- an element goes on behind what it is greater than, and stops before what it is not greater than
  pub put_on : (x y : X) (ys : List X) → is_gt (R x y) ≡ true → put R x (y ∷ ys) ≡ y ∷ put R x ys
  put_on x y ys h = ap (λ b. if b then y ∷ put R x ys else x ∷ y ∷ ys) h

  pub put_here : (x y : X) (ys : List X) → is_gt (R x y) ≡ false → put R x (y ∷ ys) ≡ x ∷ y ∷ ys
  put_here x y ys h = ap (λ b. if b then y ∷ put R x ys else x ∷ y ∷ ys) h

  pub put_first : (x : X) (ys : List X) → Rises R x ys → put R x ys ≡ x ∷ ys
  put_first x [] h = refl
  put_first x (y ∷ ys) h = put_here x y ys h

  pub put_permutes : (x : X) (ys : List X) → IsPermutation (x ∷ ys) (put R x ys)
  put_permutes x [] = IsPermutation-refl (x ∷ [])
  put_permutes x (y ∷ ys) = either_way (is_gt (R x y))
      (λ h. subst (IsPermutation (x ∷ y ∷ ys)) (sym (put_on x y ys h))
      (IsPermutation-trans (x ∷ y ∷ ys) (y ∷ x ∷ ys) (y ∷ put R x ys) (neighbours x y ys) (IsPermutation-cons y (x ∷ ys) (put R x ys) (put_permutes x ys))))
      (λ h. IsPermutation-same (x ∷ y ∷ ys) (put R x (y ∷ ys)) (sym (put_here x y ys h)))

  -- sorting leaves the same elements
  pub sort_permutes : (xs : List X) → IsPermutation xs (sort R xs)
  sort_permutes [] = IsPermutation-refl []
  sort_permutes (x ∷ xs) =
      IsPermutation-trans (x ∷ xs) (x ∷ sort R xs) (sort R (x ∷ xs)) (IsPermutation-cons x xs (sort R xs) (sort_permutes xs)) (put_permutes x (sort R xs))

  -- what ascends is sorted already
  pub sorted_is : (xs : List X) → Ascends R xs → sort R xs ≡ xs
  sorted_is [] h = refl
  sorted_is (x ∷ xs) h = ap (put R x) (sorted_is xs h.1) ∙ put_first x xs h.0

  -- equal once sorted: the same elements
  pub permutation_from_bag : (xs ys : List X) → sort R xs ≡ sort R ys → IsPermutation xs ys
  permutation_from_bag xs ys h =
      IsPermutation-trans xs (sort R ys) ys (subst (IsPermutation xs) h (sort_permutes xs)) (IsPermutation-sym ys (sort R ys) (sort_permutes ys))

module _ {X : Type 0} (R : X → X → Ordering) (total : IsTotalOrder R) where
  -- what is not greater one way, the other way round
  pub gt_is_lt : (x y : X) → is_gt (R x y) ≡ is_lt (R y x)
  gt_is_lt x y = back_flips (R x y) (R y x) (total.antisymm x y)

  pub one_way : (x y : X) → is_gt (R x y) ≡ true → is_gt (R y x) ≡ false
  one_way x y h = not_both (R x y) (R y x) (total.antisymm x y) h

  gt_through : (x y z : X) → is_gt (R x z) ≡ true → is_gt (R y z) ≡ false → is_gt (R x y) ≡ true
  gt_through x y z h k = either_way (is_gt (R x y)) (λ e. e) (λ e. absurd (true≢false (sym h ∙ upto total x y z e k)))

  pub rises_put : (x y : X) (ys : List X) → is_gt (R y x) ≡ false → Rises R y ys → Rises R y (put R x ys)
  rises_put x y [] h k = h
  rises_put x y (z ∷ zs) h k = either_way (is_gt (R x z)) (λ e. subst (Rises R y) (sym (put_on R x z zs e)) k) (λ e. subst (Rises R y) (sym (put_here R x z zs e)) h)

  pub put_ascends : (x : X) (ys : List X) → Ascends R ys → Ascends R (put R x ys)
  put_ascends x [] h = (tt, tt)
  put_ascends x (y ∷ ys) h = either_way (is_gt (R x y))
      (λ e. subst (Ascends R) (sym (put_on R x y ys e)) (rises_put x y ys (one_way x y e) h.0, put_ascends x ys h.1))
      (λ e. subst (Ascends R) (sym (put_here R x y ys e)) (e, h))

  -- sorting puts the elements in order
  pub sort_ascends : (xs : List X) → Ascends R (sort R xs)
  sort_ascends [] = tt
  sort_ascends (x ∷ xs) = put_ascends x (sort R xs) (sort_ascends xs)

  -- sorting a sorted list leaves it as it is
  pub bag_once : (xs : List X) → sort R (sort R xs) ≡ sort R xs
  bag_once xs = sorted_is R (sort R xs) (sort_ascends xs)

module _ {X : Type 0} (R : X → X → Ordering) (total : IsTotalOrder R) (tells : (x y : X) → R x y ≡ Equal → x ≡ y) where
  -- two elements at the front take their places whichever comes first
  fronts : (x y : X) (zs : List X) → Rises R x zs → Rises R y zs → put R x (y ∷ zs) ≡ put R y (x ∷ zs)
  fronts x y zs h k = either_way (is_gt (R x y))
      (λ e. put_on R x y zs e ∙ ap (λ l. y ∷ l) (put_first R x zs h) ∙ sym (put_here R y x zs (one_way R total x y e)))
      (λ e. either_way (is_gt (R y x))
      (λ f. put_here R x y zs e ∙ sym (ap (λ l. x ∷ l) (put_first R y zs k)) ∙ sym (put_on R y x zs f))
      (λ f. let is : x ≡ y = tells x y (neither_is (R x y) (R y x) (total.antisymm x y) e f) in λ i. put R (is i) (sym is i ∷ zs)))

  low : (x y z : X) (zs : List X) → is_gt (R x z) ≡ true → is_gt (R y z) ≡ false → put R x (put R y (z ∷ zs)) ≡ put R y (put R x (z ∷ zs))
  low x y z zs a b =
      ap (put R x) (put_here R y z zs b) ∙ put_on R x y (z ∷ zs) (gt_through R total x y z a b) ∙ ap (λ l. y ∷ l) (put_on R x z zs a)
      ∙ sym (put_here R y z (put R x zs) b) ∙ sym (ap (put R y) (put_on R x z zs a))

  pub put_swaps : (x y : X) (zs : List X) → put R x (put R y zs) ≡ put R y (put R x zs)
  put_swaps x y [] = fronts x y [] tt tt
  put_swaps x y (z ∷ zs) = either_way (is_gt (R x z))
      (λ a. either_way (is_gt (R y z))
      (λ b. ap (put R x) (put_on R y z zs b) ∙ put_on R x z (put R y zs) a ∙ ap (λ l. z ∷ l) (put_swaps x y zs)
      ∙ sym (put_on R y z (put R x zs) b) ∙ sym (ap (put R y) (put_on R x z zs a)))
      (λ b. low x y z zs a b))
      (λ a. either_way (is_gt (R y z))
      (λ b. sym (low y x z zs b a))
      (λ b. ap (put R x) (put_here R y z zs b) ∙ fronts x y (z ∷ zs) a b ∙ sym (ap (put R y) (put_here R x z zs a))))

  -- the same elements: equal once sorted
  pub bag_from_permutation : (xs ys : List X) → IsPermutation xs ys → sort R xs ≡ sort R ys
  bag_from_permutation = along_permutation (sort R) (λ x xs ys h. ap (put R x) h) (λ x y zs. put_swaps x y (sort R zs))

  -- there is one list that ascends and has the same elements
  pub sort_is : (xs ys : List X) → IsPermutation xs ys → Ascends R ys → ys ≡ sort R xs
  sort_is xs ys h k = sym (sorted_is R ys k) ∙ sym (bag_from_permutation xs ys h)

  -- lists that are equal as bags stay so when they are joined
  pub sort-append : (xs ys us vs : List X) → sort R xs ≡ sort R ys → sort R us ≡ sort R vs → sort R (xs ++ us) ≡ sort R (ys ++ vs)
  sort-append xs ys us vs h k = bag_from_permutation (xs ++ us) (ys ++ vs) (IsPermutation-append xs ys us vs (permutation_from_bag R xs ys h) (permutation_from_bag R us vs k))

-- what a sort of std by a key leaves ascends by the key
module _ {X V : Type 0} (R : X → X → Ordering) (total : IsTotalOrder R) (f : V → X) where
  pub ascends_from_sorted : (vs : List V) → IsSortedBy (λ v w. is_lt (R (f v) (f w))) vs → Ascends R (map f vs)
  ascends_from_sorted [] h = tt
  ascends_from_sorted (v ∷ []) h = (tt, tt)
  ascends_from_sorted (v ∷ w ∷ vs) h = (
    gt_is_lt R total (f v) (f w) ∙ h 0 v (omega arith) (omega arith),
    ascends_from_sorted (w ∷ vs) (λ k d low high.
        subst (λ n. is_lt (R (f (slice_index_or (v ∷ w ∷ vs) n d)) (f (slice_index_or (w ∷ vs) k d))) ≡ false) (add-one (k + 1))
        (subst (λ n. is_lt (R (f (slice_index_or (v ∷ w ∷ vs) (k + 1 + 1) d)) (f (slice_index_or (v ∷ w ∷ vs) n d))) ≡ false) (add-one k)
        (h (k + 1) d (omega arith) (omega arith)))),
  )

  -- and the other way round
  pub sorted_by_key : (vs : List V) → Ascends R (map f vs) → IsSortedBy (λ v w. is_lt (R (f v) (f w))) vs
  sorted_by_key [] h = λ k d low high. absurd (omega (arith, high))
  sorted_by_key (v ∷ []) h = λ k d low high. absurd (omega (arith, high))
  sorted_by_key (v ∷ w ∷ vs) h = adjacent (sorted_by_key (w ∷ vs) h.1)
    where
      adjacent : IsSortedBy (λ a b. is_lt (R (f a) (f b))) (w ∷ vs) → (k : ℕ) (d : V) → 0 ≤ k → k + 1 < length (v ∷ w ∷ vs)
          → is_lt (R (f (slice_index_or (v ∷ w ∷ vs) (k + 1) d)) (f (slice_index_or (v ∷ w ∷ vs) k d))) ≡ false
      adjacent behind zero d low high = sym (gt_is_lt R total (f v) (f w)) ∙ h.0
      adjacent behind (suc k) d low high =
          subst (λ n. is_lt (R (f (slice_index_or (v ∷ w ∷ vs) n d)) (f (slice_index_or (w ∷ vs) k d))) ≡ false) (sym (add-one (suc k)))
          (subst (λ n. is_lt (R (f (slice_index_or (w ∷ vs) n d)) (f (slice_index_or (w ∷ vs) k d))) ≡ false) (add-one k)
          (behind k d (omega arith) (omega (arith, high))))

-- a sort of std by a key gives the bag of the keys
module _ {X V : Type 0} (R : X → X → Ordering) (total : IsTotalOrder R) (tells : (x y : X) → R x y ≡ Equal → x ≡ y) (f : V → X) where
  pub bag_key : (us vs : List V) → IsPermutation us vs → IsSortedBy (λ v w. is_lt (R (f v) (f w))) vs → map f vs ≡ sort R (map f us)
  bag_key us vs h k = sort_is R total tells (map f us) (map f vs) (IsPermutation-map f us vs h) (ascends_from_sorted R total f vs k)

-- what holds of each element holds of each once they are sorted
module _ {X : Type 0} (R : X → X → Ordering) (P : X → Type 0) where
  pub each-put : (x : X) (ys : List X) → P x → AllByRecursion P ys → AllByRecursion P (put R x ys)
  each-put x [] h k = (h, tt)
  each-put x (y ∷ ys) h k = either_way (is_gt (R x y))
      (λ e. subst (AllByRecursion P) (sym (put_on R x y ys e)) (k.0, each-put x ys h k.1))
      (λ e. subst (AllByRecursion P) (sym (put_here R x y ys e)) (h, k))

  pub each-sort : (xs : List X) → AllByRecursion P xs → AllByRecursion P (sort R xs)
  each-sort [] h = tt
  each-sort (x ∷ xs) h = each-put x (sort R xs) h.0 (each-sort xs h.1)

-- what is kept of a sorted list
module _ {X : Type 0} (R : X → X → Ordering) (total : IsTotalOrder R) where
  -- what is not greater than an element before a list is not greater than its first
  pub rises_over : (x y : X) (ys : List X) → is_gt (R x y) ≡ false → Rises R y ys → Rises R x ys
  rises_over x y [] h k = tt
  rises_over x y (z ∷ zs) h k = upto total x y z h k

  -- what is not greater than the first of a sorted list is not greater than any
  pub rises_all : (x : X) (ys : List X) → Rises R x ys → Ascends R ys → AllByRecursion (λ y. is_gt (R x y) ≡ false) ys
  rises_all x [] h k = tt
  rises_all x (y ∷ ys) h k = (h, rises_all x ys (rises_over x y ys h k.0) k.1)

  all_rise : (x : X) (ys : List X) → AllByRecursion (λ y. is_gt (R x y) ≡ false) ys → Rises R x ys
  all_rise x [] h = tt
  all_rise x (y ∷ ys) h = h.0

module _ {X : Type 0} (R : X → X → Ordering) (total : IsTotalOrder R) (p : X → Bool) where
  kept_ascends : (b : Bool) (x : X) (ys : List X) → AllByRecursion (λ y. is_gt (R x y) ≡ false) ys → Ascends R ys → Ascends R (cond b (x ∷ ys) ys)
  kept_ascends true x ys h k = (all_rise R total x ys h, k)
  kept_ascends false x ys h k = k

  pub filter_ascends : (xs : List X) → Ascends R xs → Ascends R (filter p xs)
  filter_ascends [] h = tt
  filter_ascends (x ∷ xs) h =
      kept_ascends (p x) x (filter p xs) (each-filter p (λ y. is_gt (R x y) ≡ false) xs (rises_all R total x xs h.0 h.1)) (filter_ascends xs h.1)

  -- sorting what is kept, or keeping of what is sorted
  pub sort-filter : (tells : (x y : X) → R x y ≡ Equal → x ≡ y) (xs : List X) → sort R (filter p xs) ≡ filter p (sort R xs)
  sort-filter tells xs =
      sym (sort_is R total tells (filter p xs) (filter p (sort R xs)) (IsPermutation-filter p xs (sort R xs) (sort_permutes R xs)) (filter_ascends (sort R xs) (sort_ascends R total xs)))

-- how often a list holds something

counted : {X : Type 0} (b : Bool) (x : X) (xs : List X) → length (cond b (x ∷ xs) xs) ≡ cond b 1 0 + length xs
counted true x xs = omega arith
counted false x xs = omega arith

module _ {X : Type 0} (R : X → X → Ordering) where
  pub times-cons : (z x : X) (xs : List X) → times R z (x ∷ xs) ≡ cond (is_eq (R z x)) 1 0 + times R z xs
  times-cons z x xs = counted (is_eq (R z x)) x (filter (λ y. is_eq (R z y)) xs)

  pub times-append : (z : X) (xs ys : List X) → times R z (xs ++ ys) ≡ times R z xs + times R z ys
  times-append z xs ys = ap length (filter-append (λ y. is_eq (R z y)) xs ys) ∙ length-append (filter (λ y. is_eq (R z y)) xs) (filter (λ y. is_eq (R z y)) ys)

  -- the same elements: each as often
  pub times_from_permutation : (xs ys : List X) → IsPermutation xs ys → (z : X) → times R z xs ≡ times R z ys
  times_from_permutation xs ys h z =
      sym (length_permutation (filter (λ y. is_eq (R z y)) xs) (filter (λ y. is_eq (R z y)) ys) (IsPermutation-filter (λ y. is_eq (R z y)) xs ys h))

  pub sort_times : (z : X) (xs : List X) → times R z (sort R xs) ≡ times R z xs
  sort_times z xs = sym (times_from_permutation xs (sort R xs) (sort_permutes R xs) z)

-- the list without the first element that is `x`
abbrev without : {X : Type 0} → (X → X → Ordering) → X → List X → List X
without R x [] = []
without R x (y ∷ ys) = if is_eq (R x y) then ys else y ∷ without R x ys

module _ {X : Type 0} (R : X → X → Ordering) (total : IsTotalOrder R) (tells : (x y : X) → R x y ≡ Equal → x ≡ y) where
  itself : (x : X) → is_eq (R x x) ≡ true
  itself x = ap is_eq (tied_itself total x)

  holds_first : (x : X) (xs : List X) → 0 < times R x (x ∷ xs)
  holds_first x xs =
      let e = times-cons R x x xs in
      let one : ◌≡◌ {A = ℕ} (cond (is_eq (R x x)) 1 0) 1 = ap (λ b. cond b 1 0) (itself x) in
      omega arith

  taken_out : (x : X) (ys : List X) → 0 < times R x ys → IsPermutation ys (x ∷ without R x ys)
  taken_out x [] h = absurd (omega arith)
  taken_out x (y ∷ ys) h = either_way (is_eq (R x y))
      (λ e. let is : x ≡ y = tells x y (eq_is (R x y) e) in
      IsPermutation-same (y ∷ ys) (x ∷ without R x (y ∷ ys)) (λ i. sym is i ∷ cond (sym e i) ys (y ∷ without R x ys)))
      (λ e.
      let count = times-cons R x y ys in
      let none : ◌≡◌ {A = ℕ} (cond (is_eq (R x y)) 1 0) 0 = ap (λ b. cond b 1 0) e in
      let more : 0 < times R x ys = omega arith in
      subst (λ l. IsPermutation (y ∷ ys) (x ∷ l)) (λ i. cond (sym e i) ys (y ∷ without R x ys))
      (IsPermutation-trans (y ∷ ys) (y ∷ x ∷ without R x ys) (x ∷ y ∷ without R x ys)
      (IsPermutation-cons y ys (x ∷ without R x ys) (taken_out x ys more)) (neighbours y x (without R x ys))))

  -- each as often: the same elements
  pub permutation_from_times : (xs ys : List X) → ((z : X) → times R z xs ≡ times R z ys) → IsPermutation xs ys
  permutation_from_times [] [] h = IsPermutation-refl []
  permutation_from_times [] (y ∷ ys) h = absurd (let e = h y in let some = holds_first y ys in omega arith)
  permutation_from_times (x ∷ xs) ys h =
      let some = holds_first x xs in
      let count = h x in
      let out : IsPermutation ys (x ∷ without R x ys) = taken_out x ys (omega arith) in
      let rest : (z : X) → times R z xs ≡ times R z (without R x ys) =
      λ z. let a = times-cons R z x xs in
      let b = times-cons R z x (without R x ys) in
      let c = times_from_permutation R ys (x ∷ without R x ys) out z in
      let d = h z in
      omega arith in
      IsPermutation-trans (x ∷ xs) (x ∷ without R x ys) ys
      (IsPermutation-cons x xs (without R x ys) (permutation_from_times xs (without R x ys) rest))
      (IsPermutation-sym ys (x ∷ without R x ys) out)

  -- each as often: equal once sorted
  pub one_order : (xs ys : List X) → ((z : X) → times R z xs ≡ times R z ys) → sort R xs ≡ sort R ys
  one_order xs ys h = bag_from_permutation R total tells xs ys (permutation_from_times xs ys h)

  -- two lists that ascend and hold each as often are the same
  pub ascending_same : (xs ys : List X) → Ascends R xs → Ascends R ys → ((z : X) → times R z xs ≡ times R z ys) → xs ≡ ys
  ascending_same xs ys h k m = sym (sorted_is R xs h) ∙ one_order xs ys m ∙ sorted_is R ys k

  -- an element is kept each time or not at all
  none_left : (b : Bool) → ◌≡◌ {A = ℕ} 0 (cond b 0 0)
  none_left true = refl
  none_left false = refl

  met : (b : Bool) (z x : X) (us xs : List X) → times R z us ≡ cond b (times R z xs) 0 → times R z (cond b (x ∷ us) us) ≡ cond b (times R z (x ∷ xs)) 0
  met true z x us xs h = times-cons R z x us ∙ ap (λ n. cond (is_eq (R z x)) 1 0 + n) h ∙ sym (times-cons R z x xs)
  met false z x us xs h = h

  missed : (b : Bool) (z x : X) (us : List X) → ◌≡◌ {A = ℕ} (cond (is_eq (R z x)) 1 0) 0 → times R z (cond b (x ∷ us) us) ≡ times R z us
  missed true z x us h = times-cons R z x us ∙ (let e : cond (is_eq (R z x)) 1 0 + times R z us ≡ times R z us = omega arith in e)
  missed false z x us h = refl

  pub times-filter : (p : X → Bool) (z : X) (xs : List X) → times R z (filter p xs) ≡ cond (p z) (times R z xs) 0
  times-filter p z [] = none_left (p z)
  times-filter p z (x ∷ xs) =
      let rest : times R z (filter p xs) ≡ cond (p z) (times R z xs) 0 = times-filter p z xs in
      either_way (is_eq (R z x))
      (λ e. let is : z ≡ x = tells z x (eq_is (R z x) e) in
      subst (λ y. times R z (filter p (x ∷ xs)) ≡ cond (p y) (times R z (x ∷ xs)) 0) (sym is)
      (met (p x) z x (filter p xs) xs (subst (λ y. times R z (filter p xs) ≡ cond (p y) (times R z xs) 0) is rest)))
      (λ e. let none : ◌≡◌ {A = ℕ} (cond (is_eq (R z x)) 1 0) 0 = ap (λ b. cond b 1 0) e in
      missed (p x) z x (filter p xs) none ∙ rest ∙ ap (λ n. cond (p z) n 0) (sym (missed true z x xs none)))

-- sorting what a function that keeps the order gives, or the function of what is sorted
module _ {X Y : Type 0} (R : X → X → Ordering) (S : Y → Y → Ordering) (f : X → Y) (keeps : (x y : X) → S (f x) (f y) ≡ R x y) where
  pub map-put : (x : X) (ys : List X) → map f (put R x ys) ≡ put S (f x) (map f ys)
  map-put x [] = refl
  map-put x (y ∷ ys) = either_way (is_gt (R x y))
      (λ e. ap (map f) (put_on R x y ys e) ∙ ap (λ zs. f y ∷ zs) (map-put x ys) ∙ sym (put_on S (f x) (f y) (map f ys) (ap is_gt (keeps x y) ∙ e)))
      (λ e. ap (map f) (put_here R x y ys e) ∙ sym (put_here S (f x) (f y) (map f ys) (ap is_gt (keeps x y) ∙ e)))

  pub sort_map : (xs : List X) → sort S (map f xs) ≡ map f (sort R xs)
  sort_map [] = refl
  sort_map (x ∷ xs) = ap (put S (f x)) (sort_map xs) ∙ sym (map-put x (sort R xs))

-- the same where the function keeps the order of the elements that are as one asks
module _ {X Y : Type 0} (R : X → X → Ordering) (S : Y → Y → Ordering) (f : X → Y) (P : X → Type 0) (keeps : (x y : X) → P x → P y → S (f x) (f y) ≡ R x y) where
  map-put_where : (x : X) (ys : List X) → P x → AllByRecursion P ys → map f (put R x ys) ≡ put S (f x) (map f ys)
  map-put_where x [] h k = refl
  map-put_where x (y ∷ ys) h k = either_way (is_gt (R x y))
      (λ e. ap (map f) (put_on R x y ys e) ∙ ap (λ zs. f y ∷ zs) (map-put_where x ys h k.1) ∙ sym (put_on S (f x) (f y) (map f ys) (ap is_gt (keeps x y h k.0) ∙ e)))
      (λ e. ap (map f) (put_here R x y ys e) ∙ sym (put_here S (f x) (f y) (map f ys) (ap is_gt (keeps x y h k.0) ∙ e)))

  pub sort_map_where : (xs : List X) → AllByRecursion P xs → sort S (map f xs) ≡ map f (sort R xs)
  sort_map_where [] h = refl
  sort_map_where (x ∷ xs) h = ap (put S (f x)) (sort_map_where xs h.1) ∙ sym (map-put_where x (sort R xs) h.0 (each-sort R P xs h.1))

-- a sorted list's first elements, and what is left without them
module _ {X : Type 0} (R : X → X → Ordering) where
  rises-take : (x : X) (n : ℕ) (ys : List X) → Rises R x ys → Rises R x (take n ys)
  rises-take x zero ys h = tt
  rises-take x (suc n) [] h = tt
  rises-take x (suc n) (y ∷ ys) h = h

  pub take_ascends : (n : ℕ) (xs : List X) → Ascends R xs → Ascends R (take n xs)
  take_ascends zero xs h = tt
  take_ascends (suc n) [] h = tt
  take_ascends (suc n) (x ∷ xs) h = (rises-take x n xs h.0, take_ascends n xs h.1)

  pub drop_ascends : (n : ℕ) (xs : List X) → Ascends R xs → Ascends R (drop n xs)
  drop_ascends zero xs h = h
  drop_ascends (suc n) [] h = tt
  drop_ascends (suc n) (x ∷ xs) h = drop_ascends n xs h.1

  -- being sorted is a proposition
  pub ascends_prop : (xs : List X) → IsProp (Ascends R xs)
  ascends_prop [] a b = refl
  ascends_prop (x ∷ []) a b = refl
  ascends_prop (x ∷ y ∷ xs) a b = λ i. (Bool-set (is_gt (R x y)) false a.0 b.0 i, ascends_prop (y ∷ xs) a.1 b.1 i)
