-- Laws of two lists element beside element, of lists by their places, and of numbers that rise.
use Rattle.std.specs.Prelude.{◌≡◌, ◌<◌, ◌≤◌, ◌+◌, ℕ, zero, suc, Bool, true, false, List, [], ◌∷◌, ◌++◌, length, map, slice_get, Some, refl, nat_lt}
use Rattle.std.proofs.Common.{ap, sym, ◌∙◌, arith, add-one, cond, subst}
use Rattle.std.specs.List.{filter, flat_map, range_with_len, AllByRecursion}
use Rattle.std.proofs.lemmas.Bool.Decides.{nat_tests}
use Rattle.pig_value.specs.Elementwise.{Each, Rising}
use Rattle.pig_value.proofs.list_laws.Listing.{some_same, each_weaker, each-filter, each_at, filter_all, filter_none}

module _ {X Y : Type 0} where
  pub each_weaker_two : (P Q : X → Y → Type 0) → ((x : X) (y : Y) → P x y → Q x y) → (xs : List X) (ys : List Y) → Each P xs ys → Each Q xs ys
  each_weaker_two P Q on [] [] h = tt
  each_weaker_two P Q on [] (y ∷ ys) h = absurd h
  each_weaker_two P Q on (x ∷ xs) [] h = absurd h
  each_weaker_two P Q on (x ∷ xs) (y ∷ ys) h = (on x y h.0, each_weaker_two P Q on xs ys h.1)

  pub each_length : (P : X → Y → Type 0) (xs : List X) (ys : List Y) → Each P xs ys → length xs ≡ length ys
  each_length P [] [] h = refl
  each_length P [] (y ∷ ys) h = absurd h
  each_length P (x ∷ xs) [] h = absurd h
  each_length P (x ∷ xs) (y ∷ ys) h = ap suc (each_length P xs ys h.1)

  -- at one place
  pub each_beside : (P : X → Y → Type 0) (xs : List X) (ys : List Y) (i : ℕ) (x : X) (y : Y) → Each P xs ys → slice_get xs i ≡ Some x → slice_get ys i ≡ Some y → P x y
  each_beside P [] ys i x y h at by = absurd (cc)
  each_beside P (u ∷ us) [] i x y h at by = absurd h
  each_beside P (u ∷ us) (v ∷ vs) zero x y h at by = subst (λ w. P w y) (some_same u x at) (subst (λ w. P u w) (some_same v y by) h.0)
  each_beside P (u ∷ us) (v ∷ vs) (suc i) x y h at by = each_beside P us vs i x y h.1 at by

  pub each_joined : (P : X → Y → Type 0) (xs us : List X) (ys vs : List Y) → Each P xs ys → Each P us vs → Each P (xs ++ us) (ys ++ vs)
  each_joined P [] us [] vs h k = k
  each_joined P [] us (y ∷ ys) vs h k = absurd h
  each_joined P (x ∷ xs) us [] vs h k = absurd h
  each_joined P (x ∷ xs) us (y ∷ ys) vs h k = (h.0, each_joined P xs us ys vs h.1 k)

  -- a list beside what is made of it
  pub each_with : (P : X → Y → Type 0) (f : X → Y) (xs : List X) → AllByRecursion (λ x. P x (f x)) xs → Each P xs (map f xs)
  each_with P f [] h = tt
  each_with P f (x ∷ xs) h = (h.0, each_with P f xs h.1)

  -- what is made of both, joined
  pub each_flat : {Z : Type 0} (f : X → List Z) (g : Y → List Z) (xs : List X) (ys : List Y) → Each (λ x y. f x ≡ g y) xs ys → flat_map f xs ≡ flat_map g ys
  each_flat f g [] [] h = refl
  each_flat f g [] (y ∷ ys) h = absurd h
  each_flat f g (x ∷ xs) [] h = absurd h
  each_flat f g (x ∷ xs) (y ∷ ys) h = λ i. h.0 i ++ each_flat f g xs ys h.1 i

module _ {X Y U V : Type 0} (P : U → V → Type 0) (f : X → U) (g : Y → V) where
  pub each_over : (xs : List X) (ys : List Y) → Each (λ x y. P (f x) (g y)) xs ys → Each P (map f xs) (map g ys)
  each_over [] [] h = tt
  each_over [] (y ∷ ys) h = absurd h
  each_over (x ∷ xs) [] h = absurd h
  each_over (x ∷ xs) (y ∷ ys) h = (h.0, each_over xs ys h.1)

  pub each_under : (xs : List X) (ys : List Y) → Each P (map f xs) (map g ys) → Each (λ x y. P (f x) (g y)) xs ys
  each_under [] [] h = tt
  each_under [] (y ∷ ys) h = absurd h
  each_under (x ∷ xs) [] h = absurd h
  each_under (x ∷ xs) (y ∷ ys) h = (h.0, each_under xs ys h.1)

module _ {X : Type 0} where
  -- what an index finds behind other elements
  pub get-behind : (xs ys : List X) (i : ℕ) → slice_get (xs ++ ys) (length xs + i) ≡ slice_get ys i
  get-behind [] ys i = let e : 0 + i ≡ i = omega arith in ap (slice_get ys) e
  get-behind (x ∷ xs) ys i = let e : length (x ∷ xs) + i ≡ suc (length xs + i) = omega arith in ap (slice_get (x ∷ xs ++ ys)) e ∙ get-behind xs ys i

  -- numbers from one more on
  pub range_up : (f : ℕ → X) (a n : ℕ) → map f (range_with_len (a + 1) n) ≡ map (λ i. f (suc i)) (range_with_len a n)
  range_up f a zero = refl
  range_up f a (suc n) = λ i. f (add-one a i) ∷ range_up f (a + 1) n i

-- all elements by their places
pub placed : {X : Type 0} (xs : List X) → map (slice_get xs) (range_with_len 0 (length xs)) ≡ map Some xs
placed [] = refl
placed (x ∷ xs) = ap (λ more. Some x ∷ more) (range_up (slice_get (x ∷ xs)) 0 (length xs) ∙ placed xs)

pub range_below : (a n : ℕ) → AllByRecursion (λ i. i < a + n) (range_with_len a n)
range_below a zero = tt
range_below a (suc n) =
    (omega arith, each_weaker (λ i. i < a + 1 + n) (λ i. i < a + suc n) (λ i h. omega (arith, h)) (range_with_len (a + 1) n) (range_below (a + 1) n))

pub range_above : (a n : ℕ) → AllByRecursion (λ i. a ≤ i) (range_with_len a n)
range_above a zero = tt
range_above a (suc n) =
    (omega arith, each_weaker (λ i. a + 1 ≤ i) (λ i. a ≤ i) (λ i h. omega (arith, h)) (range_with_len (a + 1) n) (range_above (a + 1) n))

pub range_rises : (a n : ℕ) → Rising (range_with_len a n)
range_rises a zero = tt
range_rises a (suc n) =
    (each_weaker (λ i. a + 1 ≤ i) (λ i. a < i) (λ i h. omega (arith, h)) (range_with_len (a + 1) n) (range_above (a + 1) n), range_rises (a + 1) n)

pub filter_rises : (p : ℕ → Bool) (ks : List ℕ) → Rising ks → Rising (filter p ks)
filter_rises p [] h = tt
filter_rises p (k ∷ ks) h = kept (p k) (filter_rises p ks h.1)
  where
    kept : (b : Bool) → Rising (filter p ks) → Rising (cond b (k ∷ filter p ks) (filter p ks))
    kept true rest = (each-filter p (λ j. k < j) ks h.0, rest)
    kept false rest = rest

-- rising numbers, cut at one of them
pub split_off : (ks : List ℕ) (i k : ℕ) → Rising ks → slice_get ks i ≡ Some k → ks ≡ filter (λ j. nat_lt j k) ks ++ k ∷ filter (λ j. nat_lt k j) ks
split_off [] i k h at = absurd (cc)
split_off (j ∷ ks) zero k h at =
    let is : j ≡ k = some_same j k at in
    let not_itself : nat_lt k k ≡ false = grind (arith, nat_tests) in
    let later : AllByRecursion (λ l. k < l) ks = subst (λ n. AllByRecursion (λ l. n < l) ks) is h.0 in
    let none : filter (λ l. nat_lt l k) ks ≡ [] =
    filter_none (λ l. nat_lt l k) ks (each_weaker (λ l. k < l) (λ l. nat_lt l k ≡ false) (λ l m. grind (arith, nat_tests, m)) ks later) in
    let all : filter (λ l. nat_lt k l) ks ≡ ks =
    filter_all (λ l. nat_lt k l) ks (each_weaker (λ l. k < l) (λ l. nat_lt k l ≡ true) (λ l m. grind (arith, nat_tests, m)) ks later) in
    subst (λ n. n ∷ ks ≡ filter (λ l. nat_lt l k) (n ∷ ks) ++ k ∷ filter (λ l. nat_lt k l) (n ∷ ks)) (sym is)
    (sym ((λ t. cond (not_itself t) (k ∷ filter (λ l. nat_lt l k) ks) (filter (λ l. nat_lt l k) ks) ++ k ∷ cond (not_itself t) (k ∷ filter (λ l. nat_lt k l) ks) (filter (λ l. nat_lt k l) ks))
    ∙ (λ t. none t ++ k ∷ all t)))
split_off (j ∷ ks) (suc i) k h at =
    let before : j < k = each_at (λ l. j < l) ks i k at h.0 in
    let here : nat_lt j k ≡ true = grind (arith, nat_tests, before) in
    let gone : nat_lt k j ≡ false = grind (arith, nat_tests, before) in
    ap (λ more. j ∷ more) (split_off ks i k h.1 at)
    ∙ sym (λ t. cond (here t) (j ∷ filter (λ l. nat_lt l k) ks) (filter (λ l. nat_lt l k) ks) ++ k ∷ cond (gone t) (j ∷ filter (λ l. nat_lt k l) ks) (filter (λ l. nat_lt k l) ks))
