-- Elements of lists by their places, and lists that are made of lists.
use Rattle.std.specs.Prelude.{◌≡◌, ◌<◌, ◌+◌, ℕ, zero, suc, Bool, true, false, List, [], ◌∷◌, ◌++◌, length, map, Some, slice_get}
use Rattle.std.proofs.Common.{ap, sym, ◌∙◌, arith, cond}
use Rattle.std.specs.List.{AllByRecursion, filter, flat_map, range_with_len}
use Rattle.std.specs.Option.{option_map_or}
use Rattle.std.proofs.lemmas.List.Folds.{flat_map-map}
use Rattle.pig_value.proofs.list_laws.Elementwise.{placed}
use Rattle.pig_value.proofs.list_laws.Listing.{each-append, some_same}
use Rattle.pig_value.specs.Elementwise.{Each}

pub range_at : (a n i : ℕ) → i < n → slice_get (range_with_len a n) i ≡ Some (a + i)
range_at a zero i h = absurd (omega (arith, h))
range_at a (suc n) zero h = let e : a ≡ a + 0 = omega arith in ap Some e
range_at a (suc n) (suc i) h = let e : a + 1 + i ≡ a + suc i = omega arith in range_at (a + 1) n i (omega (arith, h)) ∙ ap Some e

module _ {X : Type 0} where
  pub get_front : (xs ys : List X) (i : ℕ) (x : X) → slice_get xs i ≡ Some x → slice_get (xs ++ ys) i ≡ Some x
  get_front [] ys i x at = absurd (cc)
  get_front (v ∷ xs) ys zero x at = at
  get_front (v ∷ xs) ys (suc i) x at = get_front xs ys i x at

  -- an element that passes stands among those that pass
  pub filtered_at : (p : X → Bool) (xs : List X) (i : ℕ) (x : X) → slice_get xs i ≡ Some x → p x ≡ true → (j : ℕ) × (slice_get (filter p xs) j ≡ Some x)
  filtered_at p [] i x at passes = absurd (cc)
  filtered_at p (v ∷ xs) zero x at passes =
      let is : v ≡ x = some_same v x at in
      (0, ap (λ b. slice_get (cond b (v ∷ filter p xs) (filter p xs)) 0) (ap p is ∙ passes) ∙ at)
  filtered_at p (v ∷ xs) (suc i) x at passes = let rest = filtered_at p xs i x at passes in by_test (p v) rest.0 rest.1
    where
      by_test : (b : Bool) (j : ℕ) → slice_get (filter p xs) j ≡ Some x → (l : ℕ) × (slice_get (cond b (v ∷ filter p xs) (filter p xs)) l ≡ Some x)
      by_test true j found = (suc j, found)
      by_test false j found = (j, found)

  -- what is made of all elements of a list by their places
  pub of_places : {Y : Type 0} (f : X → List Y) (xs : List X) → flat_map (λ i. option_map_or f (slice_get xs i) []) (range_with_len 0 (length xs)) ≡ flat_map f xs
  of_places f xs =
      sym (flat_map-map (λ o. option_map_or f o []) (slice_get xs) (range_with_len 0 (length xs)))
      ∙ ap (flat_map (λ o. option_map_or f o [])) (placed xs)
      ∙ flat_map-map (λ o. option_map_or f o []) Some xs

  pub all_flat : {Y : Type 0} (P : X → Type 0) (f : Y → List X) → ((y : Y) → AllByRecursion P (f y)) → (ys : List Y) → AllByRecursion P (flat_map f ys)
  all_flat P f each [] = tt
  all_flat P f each (y ∷ ys) = each-append P (f y) (flat_map f ys) (each y) (all_flat P f each ys)

  pub all_flat_where : {Y : Type 0} (P : X → Type 0) (Q : Y → Type 0) (f : Y → List X) → ((y : Y) → Q y → AllByRecursion P (f y)) → (ys : List Y) → AllByRecursion Q ys → AllByRecursion P (flat_map f ys)
  all_flat_where P Q f each [] h = tt
  all_flat_where P Q f each (y ∷ ys) h = each-append P (f y) (flat_map f ys) (each y h.0) (all_flat_where P Q f each ys h.1)

module _ {X Y Z : Type 0} where
  -- of elements that are made of others
  pub each_left : (P : Z → Y → Type 0) (f : X → Z) (xs : List X) (ys : List Y) → Each P (map f xs) ys → Each (λ x y. P (f x) y) xs ys
  each_left P f [] [] h = tt
  each_left P f [] (y ∷ ys) h = absurd h
  each_left P f (x ∷ xs) [] h = absurd h
  each_left P f (x ∷ xs) (y ∷ ys) h = (h.0, each_left P f xs ys h.1)

module _ {X Y : Type 0} where
  -- with what is known of the first list's elements
  pub each_known : (P Q : X → Y → Type 0) (K : X → Type 0) → ((x : X) (y : Y) → K x → P x y → Q x y) → (xs : List X) (ys : List Y) → AllByRecursion K xs → Each P xs ys → Each Q xs ys
  each_known P Q K on [] [] k h = tt
  each_known P Q K on [] (y ∷ ys) k h = absurd h
  each_known P Q K on (x ∷ xs) [] k h = absurd h
  each_known P Q K on (x ∷ xs) (y ∷ ys) k h = (on x y k.0 h.0, each_known P Q K on xs ys k.1 h.1)
