-- What holds of each element of a list, and of each that is taken, made or kept of it.
use Rattle.std.specs.Prelude.{◌≡◌, ℕ, suc, Bool, true, false, List, [], ◌∷◌, map, Option, Some, None, slice_get, refl}
use Rattle.std.proofs.Common.{sym, ◌∙◌, cond, subst, true≢false}
use Rattle.std.specs.List.{AllByRecursion, cons_option, filter, filter_map}
use Rattle.pig_value.proofs.list_laws.Listing.{some_same}

module _ {X : Type 0} (P : X → Type 0) where
  pub each_placed : (xs : List X) → ((i : ℕ) (x : X) → slice_get xs i ≡ Some x → P x) → AllByRecursion P xs
  each_placed [] h = tt
  each_placed (x ∷ xs) h = (h 0 x refl, each_placed xs (λ i. h (suc i)))

  -- of each that passes
  pub passing_held : (p : X → Bool) (xs : List X) → AllByRecursion P (filter p xs) → AllByRecursion (λ x. p x ≡ true → P x) xs
  passing_held p [] h = tt
  passing_held p (x ∷ xs) h = by_test (passing_held p xs) (p x) refl h
    where
      by_test : (AllByRecursion P (filter p xs) → AllByRecursion (λ y. p y ≡ true → P y) xs) → (b : Bool) → p x ≡ b → AllByRecursion P (cond b (x ∷ filter p xs) (filter p xs))
          → (p x ≡ true → P x) × AllByRecursion (λ y. p y ≡ true → P y) xs
      by_test rest true e held = (λ passes. held.0, rest held.1)
      by_test rest false e held = (λ passes. absurd (true≢false (sym passes ∙ e)), rest held)

module _ {X Y : Type 0} (P : Y → Type 0) where
  -- of each that is made of one
  pub mapped_held : (f : X → Y) (xs : List X) → AllByRecursion P (map f xs) → AllByRecursion (λ x. P (f x)) xs
  mapped_held f [] h = tt
  mapped_held f (x ∷ xs) h = (h.0, mapped_held f xs h.1)

  -- of each that is taken of one, where one is
  pub each_taken : (f : X → Option Y) (xs : List X) → ((i : ℕ) (x : X) (y : Y) → slice_get xs i ≡ Some x → f x ≡ Some y → P y) → AllByRecursion P (filter_map f xs)
  each_taken f [] h = tt
  each_taken f (x ∷ xs) h = by_found (f x) refl (each_taken f xs (λ i. h (suc i)))
    where
      by_found : (o : Option Y) → f x ≡ o → AllByRecursion P (filter_map f xs) → AllByRecursion P (cons_option o (filter_map f xs))
      by_found None e rest = rest
      by_found (Some y) e rest = (h 0 x y refl e, rest)

  pub taken_held : (f : X → Option Y) (xs : List X) → AllByRecursion P (filter_map f xs) → AllByRecursion (λ x. (y : Y) → f x ≡ Some y → P y) xs
  taken_held f [] h = tt
  taken_held f (x ∷ xs) h = by_found (taken_held f xs) (f x) refl h
    where
      by_found : (AllByRecursion P (filter_map f xs) → AllByRecursion (λ z. (y : Y) → f z ≡ Some y → P y) xs) → (o : Option Y) → f x ≡ o
          → AllByRecursion P (cons_option o (filter_map f xs)) → ((y : Y) → f x ≡ Some y → P y) × AllByRecursion (λ z. (y : Y) → f z ≡ Some y → P y) xs
      by_found rest None e held = (λ y is. absurd (let wrong = sym e ∙ is in cc), rest held)
      by_found rest (Some z) e held = (λ y is. subst P (some_same z y (sym e ∙ is)) held.0, rest held.1)
