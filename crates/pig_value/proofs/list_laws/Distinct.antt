-- Laws of the list of each element once.
use Rattle.std.specs.Prelude.{◌≡◌, ℕ, Bool, true, false, not, List, [], ◌∷◌, map, min, refl}
use Rattle.std.proofs.Common.{ap, sym, ◌∙◌, arith, cond, true≢false}
use Rattle.std.specs.Cmp.{IsTotalOrder}
use Rattle.std.specs.List.{filter, flat_map, AllByRecursion}
use Rattle.std.specs.List.Sorted.{IsPermutation}
use Rattle.std.specs.Ordering.{is_eq}
use Rattle.std.specs.declared.cmp.Ordering.{Ordering}
use Rattle.std.specs.declared.cmp.Ordering.TheVariants.{Equal}
use Rattle.std.proofs.lemmas.Cmp.{tied_back}
use Rattle.pig_value.specs.Sorts.{put, Ascends, times, distinct}
use Rattle.pig_value.proofs.list_laws.Listing.{each-filter, filter-map}
use Rattle.pig_value.proofs.list_laws.Bags.{either_way, eq_is, each-put, map-put, put_permutes, put_ascends, filter_ascends, times-append, times-cons, times_from_permutation, times-filter, ascending_same}

module _ {X : Type 0} (R : X → X → Ordering) (total : IsTotalOrder R) where
  pub distinct_ascends : (xs : List X) → Ascends R (distinct R xs)
  distinct_ascends [] = tt
  distinct_ascends (x ∷ xs) =
      put_ascends R total x (filter (λ y. not (is_eq (R x y))) (distinct R xs)) (filter_ascends R total (λ y. not (is_eq (R x y))) (distinct R xs) (distinct_ascends xs))

  -- ties go both ways
  ties_back : (x y : X) → is_eq (R x y) ≡ false → is_eq (R y x) ≡ false
  ties_back x y h = either_way (is_eq (R y x)) (λ e. absurd (true≢false (sym (ap is_eq (tied_back total y x (eq_is (R y x) e))) ∙ h))) (λ e. e)

module _ {X : Type 0} (R : X → X → Ordering) (P : X → Type 0) where
  pub each-distinct : (xs : List X) → AllByRecursion P xs → AllByRecursion P (distinct R xs)
  each-distinct [] h = tt
  each-distinct (x ∷ xs) h = each-put R P x (filter (λ y. not (is_eq (R x y))) (distinct R xs)) h.0 (each-filter (λ y. not (is_eq (R x y))) P (distinct R xs) (each-distinct xs h.1))

module _ {X : Type 0} (R : X → X → Ordering) (total : IsTotalOrder R) (tells : (x y : X) → R x y ≡ Equal → x ≡ y) where
  -- each element of the list once, and no other
  pub times-distinct : (z : X) (xs : List X) → times R z (distinct R xs) ≡ min 1 (times R z xs)
  times-distinct z [] = refl
  times-distinct z (x ∷ xs) =
      let others = filter (λ y. not (is_eq (R x y))) (distinct R xs) in
      let placed : times R z (put R x others) ≡ times R z (x ∷ others) = sym (times_from_permutation R (x ∷ others) (put R x others) (put_permutes R x others) z) in
      let first = times-cons R z x others in
      let whole = times-cons R z x xs in
      let rest = times-distinct z xs in
      let kept = times-filter R total tells (λ y. not (is_eq (R x y))) z (distinct R xs) in
      placed ∙ either_way (is_eq (R z x))
      (λ e.
      let one : ◌≡◌ {A = ℕ} (cond (is_eq (R z x)) 1 0) 1 = ap (λ b. cond b 1 0) e in
      let tied : is_eq (R x z) ≡ true = ap is_eq (tied_back total z x (eq_is (R z x) e)) in
      let gone : times R z others ≡ 0 = kept ∙ ap (λ b. cond (not b) (times R z (distinct R xs)) 0) tied in
      omega arith)
      (λ e.
      let none : ◌≡◌ {A = ℕ} (cond (is_eq (R z x)) 1 0) 0 = ap (λ b. cond b 1 0) e in
      let stays : times R z others ≡ times R z (distinct R xs) = kept ∙ ap (λ b. cond (not b) (times R z (distinct R xs)) 0) (ties_back R total z x e) in
      omega arith)

  -- lists that hold the same elements, however often each
  pub distinct_same : (xs ys : List X) → ((z : X) → min 1 (times R z xs) ≡ min 1 (times R z ys)) → distinct R xs ≡ distinct R ys
  distinct_same xs ys h =
      ascending_same R total tells (distinct R xs) (distinct R ys) (distinct_ascends R total xs) (distinct_ascends R total ys)
      (λ z. times-distinct z xs ∙ h z ∙ sym (times-distinct z ys))

  pub distinct_permuted : (xs ys : List X) → IsPermutation xs ys → distinct R xs ≡ distinct R ys
  distinct_permuted xs ys h = distinct_same xs ys (λ z. ap (min 1) (times_from_permutation R xs ys h z))

  pub filter-distinct : (p : X → Bool) (xs : List X) → filter p (distinct R xs) ≡ distinct R (filter p xs)
  filter-distinct p xs =
      ascending_same R total tells (filter p (distinct R xs)) (distinct R (filter p xs))
      (filter_ascends R total p (distinct R xs) (distinct_ascends R total xs)) (distinct_ascends R total (filter p xs))
      (λ z. times-filter R total tells p z (distinct R xs) ∙ ap (λ n. cond (p z) n 0) (times-distinct z xs) ∙ inward (p z) (times R z xs)
      ∙ sym (ap (min 1) (times-filter R total tells p z xs)) ∙ sym (times-distinct z (filter p xs)))
    where
      inward : (b : Bool) (n : ℕ) → cond b (min 1 n) 0 ≡ min 1 (cond b n 0)
      inward true n = refl
      inward false n = refl

  -- the lists' own elements once, and then of all of them each once
  pub distinct_flat : (tasks : List (List X)) → distinct R (flat_map (distinct R) tasks) ≡ distinct R (flat_map (λ t. t) tasks)
  distinct_flat tasks = distinct_same (flat_map (distinct R) tasks) (flat_map (λ t. t) tasks) (λ z. once z tasks)
    where
      once : (z : X) (tasks : List (List X)) → min 1 (times R z (flat_map (distinct R) tasks)) ≡ min 1 (times R z (flat_map (λ t. t) tasks))
      once z [] = refl
      once z (t ∷ tasks) =
          let more = once z tasks in
          let one = times-distinct z t in
          let left = times-append R z (distinct R t) (flat_map (distinct R) tasks) in
          let right = times-append R z t (flat_map (λ u. u) tasks) in
          omega (arith, more, one, left, right)

-- each element once, mapped by what keeps the order
module _ {X Y : Type 0} (R : X → X → Ordering) (S : Y → Y → Ordering) (f : X → Y) (same : (x y : X) → S (f x) (f y) ≡ R x y) where
  pub distinct_map : (xs : List X) → distinct S (map f xs) ≡ map f (distinct R xs)
  distinct_map [] = refl
  distinct_map (x ∷ xs) =
      ap (λ ys. put S (f x) (filter (λ y. not (is_eq (S (f x) y))) ys)) (distinct_map xs)
      ∙ ap (put S (f x)) (filter-map (λ y. not (is_eq (S (f x) y))) f (distinct R xs)
      ∙ (λ i. map f (filter (λ y. not (is_eq (same x y i))) (distinct R xs))))
      ∙ sym (map-put R S f same x (filter (λ y. not (is_eq (R x y))) (distinct R xs)))
