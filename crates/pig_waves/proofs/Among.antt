-- What stands in lists, and tests that hold of some or of all elements.
use Rattle.std.specs.Prelude.{◌≡◌, ℕ, zero, suc, Bool, true, false, ◌&&◌, ◌||◌, List, [], ◌∷◌, ◌++◌, map, Some, slice_get, refl}
use Rattle.std.proofs.Common.{ap, sym, ◌∙◌, subst, true≢false}
use Rattle.std.specs.List.{flat_map, list_all, list_any}
use Rattle.pig_value.proofs.list_laws.Listing.{some_same}
use Rattle.pig_waves.proofs.Places.{get_front}

module _ {X : Type 0} where
  -- the element stands in the list
  pub record Among (x : X) (xs : List X) : Type 0 where
    pub at : ℕ
    pub is : slice_get xs at ≡ Some x

  pub among_first : (x : X) (xs : List X) → Among x (x ∷ xs)
  among_first x xs = record { at = 0; is = refl }

  pub among_later : (x y : X) (xs : List X) → Among x xs → Among x (y ∷ xs)
  among_later x y xs h = record { at = suc h.at; is = h.is }

  pub among_front : (x : X) (xs ys : List X) → Among x xs → Among x (xs ++ ys)
  among_front x xs ys h = record { at = h.at; is = get_front xs ys h.at x h.is }

  pub among_behind : (x : X) (xs ys : List X) → Among x ys → Among x (xs ++ ys)
  among_behind x [] ys h = h
  among_behind x (z ∷ xs) ys h = among_later x z (xs ++ ys) (among_behind x xs ys h)

  -- in which of two joined lists it stands
  pub data Side (x : X) (xs ys : List X) : Type 0 where
    in_front : Among x xs → Side x xs ys
    behind : Among x ys → Side x xs ys

  pub side_of : (x : X) (xs ys : List X) → Among x (xs ++ ys) → Side x xs ys
  side_of x [] ys h = behind h
  side_of x (z ∷ xs) ys h = by_place (λ i e. side_of x xs ys (record { at = i; is = e })) h.at h.is
    where
      later : Side x xs ys → Side x (z ∷ xs) ys
      later (in_front g) = in_front (among_later x z xs g)
      later (behind g) = behind g

      by_place : ((i : ℕ) → slice_get (xs ++ ys) i ≡ Some x → Side x xs ys) → (i : ℕ) → slice_get (z ∷ (xs ++ ys)) i ≡ Some x → Side x (z ∷ xs) ys
      by_place rest zero e = in_front (record { at = 0; is = e })
      by_place rest (suc i) e = later (rest i e)

  -- an element that a test holds of
  pub record Holds (p : X → Bool) (xs : List X) : Type 0 where
    pub x : X
    pub among : Among x xs
    pub is : p x ≡ true

  pub some_holds : (p : X → Bool) (xs : List X) → list_any p xs ≡ true → Holds p xs
  some_holds p [] h = absurd (true≢false (sym h))
  some_holds p (x ∷ xs) h = by_test (some_holds p xs) (p x) refl h
    where
      later : Holds p xs → Holds p (x ∷ xs)
      later g = record { x = g.x; among = among_later g.x x xs g.among; is = g.is }

      by_test : (list_any p xs ≡ true → Holds p xs) → (b : Bool) → p x ≡ b → (b || list_any p xs) ≡ true → Holds p (x ∷ xs)
      by_test rest true e g = record { x = x; among = among_first x xs; is = e }
      by_test rest false e g = later (rest g)

  pub any_holds : (p : X → Bool) (xs : List X) (x : X) → Among x xs → p x ≡ true → list_any p xs ≡ true
  any_holds p [] x h is = absurd (cc)
  any_holds p (z ∷ xs) x h is = by_place (λ i e. any_holds p xs x (record { at = i; is = e }) is) h.at h.is
    where
      by_place : ((i : ℕ) → slice_get xs i ≡ Some x → list_any p xs ≡ true) → (i : ℕ) → slice_get (z ∷ xs) i ≡ Some x → (p z || list_any p xs) ≡ true
      by_place rest zero e = ap (λ b. b || list_any p xs) (ap p (some_same z x e) ∙ is)
      by_place rest (suc i) e = either (p z) (rest i e)
        where
          either : (b : Bool) → list_any p xs ≡ true → (b || list_any p xs) ≡ true
          either true g = refl
          either false g = g

  -- one that it does not hold of
  pub record Fails (p : X → Bool) (xs : List X) : Type 0 where
    pub x : X
    pub among : Among x xs
    pub is : p x ≡ false

  pub some_fails : (p : X → Bool) (xs : List X) → list_all p xs ≡ false → Fails p xs
  some_fails p [] h = absurd (true≢false h)
  some_fails p (x ∷ xs) h = by_test (some_fails p xs) (p x) refl h
    where
      later : Fails p xs → Fails p (x ∷ xs)
      later g = record { x = g.x; among = among_later g.x x xs g.among; is = g.is }

      by_test : (list_all p xs ≡ false → Fails p xs) → (b : Bool) → p x ≡ b → (b && list_all p xs) ≡ false → Fails p (x ∷ xs)
      by_test rest false e g = record { x = x; among = among_first x xs; is = e }
      by_test rest true e g = later (rest g)

  pub not_all : (p : X → Bool) (xs : List X) (x : X) → Among x xs → p x ≡ false → list_all p xs ≡ false
  not_all p [] x h is = absurd (cc)
  not_all p (z ∷ xs) x h is = by_place (λ i e. not_all p xs x (record { at = i; is = e }) is) h.at h.is
    where
      by_place : ((i : ℕ) → slice_get xs i ≡ Some x → list_all p xs ≡ false) → (i : ℕ) → slice_get (z ∷ xs) i ≡ Some x → (p z && list_all p xs) ≡ false
      by_place rest zero e = ap (λ b. b && list_all p xs) (ap p (some_same z x e) ∙ is)
      by_place rest (suc i) e = both (p z) (rest i e)
        where
          both : (b : Bool) → list_all p xs ≡ false → (b && list_all p xs) ≡ false
          both true g = g
          both false g = refl

module _ {X Y : Type 0} where
  pub among_map : (f : X → Y) (xs : List X) (x : X) → Among x xs → Among (f x) (map f xs)
  among_map f [] x h = absurd (cc)
  among_map f (z ∷ xs) x h = by_place (λ i e. among_map f xs x (record { at = i; is = e })) h.at h.is
    where
      by_place : ((i : ℕ) → slice_get xs i ≡ Some x → Among (f x) (map f xs)) → (i : ℕ) → slice_get (z ∷ xs) i ≡ Some x → Among (f x) (f z ∷ map f xs)
      by_place rest zero e = record { at = 0; is = ap (λ y. Some (f y)) (some_same z x e) }
      by_place rest (suc i) e = among_later (f x) (f z) (map f xs) (rest i e)

  -- in what is made of which element it stands
  pub record MadeOf (f : X → List Y) (xs : List X) (y : Y) : Type 0 where
    pub x : X
    pub among : Among x xs
    pub made : Among y (f x)

  pub made_of : (f : X → List Y) (xs : List X) (y : Y) → Among y (flat_map f xs) → MadeOf f xs y
  made_of f [] y h = absurd (cc)
  made_of f (x ∷ xs) y h = by_side (made_of f xs y) (side_of y (f x) (flat_map f xs) h)
    where
      later : MadeOf f xs y → MadeOf f (x ∷ xs) y
      later g = record { x = g.x; among = among_later g.x x xs g.among; made = g.made }

      by_side : (Among y (flat_map f xs) → MadeOf f xs y) → Side y (f x) (flat_map f xs) → MadeOf f (x ∷ xs) y
      by_side rest (in_front g) = record { x = x; among = among_first x xs; made = g }
      by_side rest (behind g) = later (rest g)

  pub among_flat : (f : X → List Y) (xs : List X) (x : X) (y : Y) → Among x xs → Among y (f x) → Among y (flat_map f xs)
  among_flat f [] x y h g = absurd (cc)
  among_flat f (z ∷ xs) x y h g = by_place (λ i e. among_flat f xs x y (record { at = i; is = e }) g) h.at h.is
    where
      by_place : ((i : ℕ) → slice_get xs i ≡ Some x → Among y (flat_map f xs)) → (i : ℕ) → slice_get (z ∷ xs) i ≡ Some x → Among y (f z ++ flat_map f xs)
      by_place rest zero e = among_front y (f z) (flat_map f xs) (subst (λ w. Among y (f w)) (sym (some_same z x e)) g)
      by_place rest (suc i) e = among_behind y (f z) (flat_map f xs) (rest i e)

  pub record MappedFrom (f : X → Y) (xs : List X) (y : Y) : Type 0 where
    pub x : X
    pub among : Among x xs
    pub is : f x ≡ y

  pub mapped_from : (f : X → Y) (xs : List X) (y : Y) → Among y (map f xs) → MappedFrom f xs y
  mapped_from f [] y h = absurd (cc)
  mapped_from f (x ∷ xs) y h = by_place (λ i e. mapped_from f xs y (record { at = i; is = e })) h.at h.is
    where
      later : MappedFrom f xs y → MappedFrom f (x ∷ xs) y
      later g = record { x = g.x; among = among_later g.x x xs g.among; is = g.is }

      by_place : ((i : ℕ) → slice_get (map f xs) i ≡ Some y → MappedFrom f xs y) → (i : ℕ) → slice_get (f x ∷ map f xs) i ≡ Some y → MappedFrom f (x ∷ xs) y
      by_place rest zero e = record { x = x; among = among_first x xs; is = some_same (f x) y e }
      by_place rest (suc i) e = later (rest i e)
