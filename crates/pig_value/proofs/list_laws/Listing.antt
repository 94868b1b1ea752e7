-- Laws of filtering, mapping and joining lists.
use Rattle.std.specs.Prelude.{◌≡◌, ℕ, zero, suc, take, drop, slice_get, Some, Bool, true, false, ◌&&◌, List, [], ◌∷◌, ◌++◌, map, refl}
use Rattle.std.proofs.Common.{ap, ◌∙◌, cond, subst}
use Rattle.std.specs.Option.{unwrap_or}
use Rattle.std.specs.List.{filter, flat_map, AllByRecursion}
use Rattle.std.proofs.lemmas.List.{map-append}
use Rattle.std.proofs.lemmas.List.Concat.{flat_map-append}
use Rattle.std.proofs.lemmas.List.Elements.{filter-append}

pub some_same : {X : Type 0} (x y : X) → Some x ≡ Some y → x ≡ y
some_same x y h = ap (λ o. unwrap_or o x) h

module _ {X : Type 0} where
  -- what holds of each element holds of each that is kept
  pub each-filter : (p : X → Bool) (P : X → Type 0) (xs : List X) → AllByRecursion P xs → AllByRecursion P (filter p xs)
  each-filter p P [] h = tt
  each-filter p P (x ∷ xs) h = kept (p x) (filter p xs) h.0 (each-filter p P xs h.1)
    where
      kept : (b : Bool) (ys : List X) → P x → AllByRecursion P ys → AllByRecursion P (cond b (x ∷ ys) ys)
      kept true ys h k = (h, k)
      kept false ys h k = k

  -- each that is kept passes the test
  pub each_filtered : (p : X → Bool) (xs : List X) → AllByRecursion (λ x. p x ≡ true) (filter p xs)
  each_filtered p [] = tt
  each_filtered p (x ∷ xs) = kept (p x) refl (filter p xs) (each_filtered p xs)
    where
      kept : (b : Bool) → p x ≡ b → (ys : List X) → AllByRecursion (λ y. p y ≡ true) ys → AllByRecursion (λ y. p y ≡ true) (cond b (x ∷ ys) ys)
      kept true e ys h = (e, h)
      kept false e ys h = h

  pub each-append : (P : X → Type 0) (xs ys : List X) → AllByRecursion P xs → AllByRecursion P ys → AllByRecursion P (xs ++ ys)
  each-append P [] ys h k = k
  each-append P (x ∷ xs) ys h k = (h.0, each-append P xs ys h.1 k)

  pub each-take : (P : X → Type 0) (n : ℕ) (xs : List X) → AllByRecursion P xs → AllByRecursion P (take n xs)
  each-take P zero xs h = tt
  each-take P (suc n) [] h = tt
  each-take P (suc n) (x ∷ xs) h = (h.0, each-take P n xs h.1)

  pub each-drop : (P : X → Type 0) (n : ℕ) (xs : List X) → AllByRecursion P xs → AllByRecursion P (drop n xs)
  each-drop P zero xs h = h
  each-drop P (suc n) [] h = tt
  each-drop P (suc n) (x ∷ xs) h = each-drop P n xs h.1

  -- what holds of each element holds of the one at an index
  pub each_at : (P : X → Type 0) (xs : List X) (i : ℕ) (x : X) → slice_get xs i ≡ Some x → AllByRecursion P xs → P x
  each_at P [] i x at h = absurd (cc)
  each_at P (y ∷ xs) zero x at h = subst P (some_same y x at) h.0
  each_at P (y ∷ xs) (suc i) x at h = each_at P xs i x at h.1

  pub each_weaker : (P Q : X → Type 0) → ((x : X) → P x → Q x) → (xs : List X) → AllByRecursion P xs → AllByRecursion Q xs
  each_weaker P Q f [] h = tt
  each_weaker P Q f (x ∷ xs) h = (f x h.0, each_weaker P Q f xs h.1)

  pub each_of_all : (P : X → Type 0) → ((x : X) → P x) → (xs : List X) → AllByRecursion P xs
  each_of_all P f [] = tt
  each_of_all P f (x ∷ xs) = (f x, each_of_all P f xs)

  -- a filter that each passes keeps all, and one that none passes keeps nothing
  pub filter_all : (p : X → Bool) (xs : List X) → AllByRecursion (λ x. p x ≡ true) xs → filter p xs ≡ xs
  filter_all p [] h = refl
  filter_all p (x ∷ xs) h = ap (λ b. cond b (x ∷ filter p xs) (filter p xs)) h.0 ∙ ap (λ ys. x ∷ ys) (filter_all p xs h.1)

  pub filter_none : (p : X → Bool) (xs : List X) → AllByRecursion (λ x. p x ≡ false) xs → filter p xs ≡ []
  filter_none p [] h = refl
  filter_none p (x ∷ xs) h = ap (λ b. cond b (x ∷ filter p xs) (filter p xs)) h.0 ∙ filter_none p xs h.1

  -- two filters, one after the other, are one
  pub filter-filter : (p q : X → Bool) (xs : List X) → filter p (filter q xs) ≡ filter (λ x. q x && p x) xs
  filter-filter p q [] = refl
  filter-filter p q (x ∷ xs) = kept (q x) (filter q xs) (filter (λ y. q y && p y) xs) (filter-filter p q xs)
    where
      kept : (b : Bool) (us vs : List X) → filter p us ≡ vs → filter p (cond b (x ∷ us) us) ≡ cond (b && p x) (x ∷ vs) vs
      kept true us vs h = ap (λ ys. cond (p x) (x ∷ ys) ys) h
      kept false us vs h = h

module _ {X Y : Type 0} where
  pub each-map : (P : Y → Type 0) (f : X → Y) (xs : List X) → AllByRecursion (λ x. P (f x)) xs → AllByRecursion P (map f xs)
  each-map P f [] h = tt
  each-map P f (x ∷ xs) h = (h.0, each-map P f xs h.1)

  pub filter-map : (p : Y → Bool) (f : X → Y) (xs : List X) → filter p (map f xs) ≡ map f (filter (λ x. p (f x)) xs)
  filter-map p f [] = refl
  filter-map p f (x ∷ xs) =
      ap (λ ys. cond (p (f x)) (f x ∷ ys) ys) (filter-map p f xs) ∙ kept (p (f x)) (filter (λ y. p (f y)) xs)
    where
      kept : (b : Bool) (ys : List X) → cond b (f x ∷ map f ys) (map f ys) ≡ map f (cond b (x ∷ ys) ys)
      kept true ys = refl
      kept false ys = refl

  pub filter-flat_map : (p : Y → Bool) (f : X → List Y) (xs : List X) → filter p (flat_map f xs) ≡ flat_map (λ x. filter p (f x)) xs
  filter-flat_map p f [] = refl
  filter-flat_map p f (x ∷ xs) = filter-append p (f x) (flat_map f xs) ∙ ap (λ ys. filter p (f x) ++ ys) (filter-flat_map p f xs)

  -- functions that agree at each element
  pub flat_map_each : (f g : X → List Y) (xs : List X) → AllByRecursion (λ x. f x ≡ g x) xs → flat_map f xs ≡ flat_map g xs
  flat_map_each f g [] h = refl
  flat_map_each f g (x ∷ xs) h = λ i. h.0 i ++ flat_map_each f g xs h.1 i

  pub map_each : (f g : X → Y) (xs : List X) → AllByRecursion (λ x. f x ≡ g x) xs → map f xs ≡ map g xs
  map_each f g [] h = refl
  map_each f g (x ∷ xs) h = λ i. h.0 i ∷ map_each f g xs h.1 i

  -- functions that agree where the test holds
  pub flat_map_where : (p : X → Bool) (f g : X → List Y) → ((x : X) → p x ≡ true → f x ≡ g x) → (xs : List X) → flat_map f (filter p xs) ≡ flat_map g (filter p xs)
  flat_map_where p f g agree xs = flat_map_each f g (filter p xs) (each_weaker (λ x. p x ≡ true) (λ x. f x ≡ g x) agree (filter p xs) (each_filtered p xs))

  pub flat_map_none : (f : X → List Y) (xs : List X) → AllByRecursion (λ x. f x ≡ []) xs → flat_map f xs ≡ []
  flat_map_none f [] h = refl
  flat_map_none f (x ∷ xs) h = λ i. h.0 i ++ flat_map_none f xs h.1 i

module _ {X Y Z : Type 0} where
  pub map-flat_map : (f : Y → Z) (g : X → List Y) (xs : List X) → map f (flat_map g xs) ≡ flat_map (λ x. map f (g x)) xs
  map-flat_map f g [] = refl
  map-flat_map f g (x ∷ xs) = map-append f (g x) (flat_map g xs) ∙ ap (λ ys. map f (g x) ++ ys) (map-flat_map f g xs)

  pub flat_map-flat_map : (f : Y → List Z) (g : X → List Y) (xs : List X) → flat_map f (flat_map g xs) ≡ flat_map (λ x. flat_map f (g x)) xs
  flat_map-flat_map f g [] = refl
  flat_map-flat_map f g (x ∷ xs) = flat_map-append f (g x) (flat_map g xs) ∙ ap (λ ys. flat_map f (g x) ++ ys) (flat_map-flat_map f g xs)
