-- Lists whose elements stand at their places: one that is changed, and what is made of each.
use Rattle.std.proofs.Common.{inl, inr, ◌≡◌, ◌≢◌, ◌+◌, ℕ, zero, suc, List, [], ◌∷◌, map, length, refl, sym, ◌∙◌, ap, subst, arith}
use Rattle.std.specs.Prelude.{◌⊎◌, ◌==◌, true, false, OnErr, OnOk, Some, get_or, slice_get, slice_set}
use Rattle.std.specs.declared.result.Result.{Result}
use Rattle.std.specs.declared.result.Result.TheVariants.{Err, Ok}
use Rattle.std.specs.List.{range_with_len}
use Rattle.std.proofs.lemmas.Bool.{cases_eq, eqb-true, false≢true}
use Rattle.std.proofs.lemmas.Option.{slice_get_within}
use Rattle.pig_value.specs.Elementwise.{Each}
use Rattle.pig_value.proofs.list_laws.Indexing.{some_at}
use Rattle.pig_value.proofs.list_laws.Listing.{some_same}
use Rattle.pig_shuffle.specs.Held.{ChangedAt, EachAt}

pub empty_list : {X : Type 0} (xs : List X) → length xs ≡ 0 → xs ≡ []
empty_list [] h = refl
empty_list (x ∷ xs) h = absurd (omega (arith, h))

-- by the test of its length
pub is_empty : {X : Type 0} (xs : List X) (len : ℕ) → len ≡ length xs → true ≡ (len == 0) → xs ≡ []
is_empty xs len size test = empty_list xs (sym size ∙ eqb-true len 0 (sym test))

pub is_some : {X : Type 0} (xs : List X) (len : ℕ) → len ≡ length xs → false ≡ (len == 0) → xs ≢ []
is_some xs len size test none = false≢true (test ∙ ap (λ n. n == 0) (size ∙ ap length none))

-- ---- an element that is changed

set_length : {X : Type 0} (xs : List X) (i : ℕ) (y : X) → length (slice_set xs i y) ≡ length xs
set_length [] i y = refl
set_length (x ∷ xs) zero y = refl
set_length (x ∷ xs) (suc i) y = ap suc (set_length xs i y)

set_other : {X : Type 0} (xs : List X) (i p : ℕ) (y : X) → p ≢ i → slice_get (slice_set xs i y) p ≡ slice_get xs p
set_other [] i p y other = refl
set_other (x ∷ xs) zero zero y other = absurd (other refl)
set_other (x ∷ xs) zero (suc p) y other = refl
set_other (x ∷ xs) (suc i) zero y other = refl
set_other (x ∷ xs) (suc i) (suc p) y other = set_other xs i p y (λ e. other (ap suc e))

set_here : {X : Type 0} (xs : List X) (i : ℕ) (x y : X) → slice_get xs i ≡ Some x → slice_get (slice_set xs i y) i ≡ Some y
set_here [] i x y is = absurd (let within = slice_get_within [] i x is in omega (arith, within))
set_here (z ∷ xs) zero x y is = refl
set_here (z ∷ xs) (suc i) x y is = set_here xs i x y is

pub changed_set : {X : Type 0} (R : X → X → Type 0) (xs : List X) (at : ℕ) (x y : X) → slice_get xs at ≡ Some x → R x y → ChangedAt at R xs (slice_set xs at y)
changed_set R xs at x y is r = record {
  count = set_length xs at y;
  others = λ p other. set_other xs at p y other;
  here = λ u v old new.
      subst (λ w. R w v) (some_same x u (sym is ∙ old)) (subst (R x) (some_same y v (sym (set_here xs at x y is) ∙ new)) r);
}

-- an element that is not told from the one that it replaces
pub map_set : {X Y : Type 0} (f : X → Y) (xs : List X) (i : ℕ) (x y : X) → slice_get xs i ≡ Some x → f y ≡ f x → map f (slice_set xs i y) ≡ map f xs
map_set f [] i x y is e = refl
map_set f (z ∷ xs) zero x y is e = ap (λ w. w ∷ map f xs) (e ∙ ap f (sym (some_same z x is)))
map_set f (z ∷ xs) (suc i) x y is e = ap (λ ws. f z ∷ ws) (map_set f xs i x y is e)

-- what holds of each at its place, once one is changed
module _ {X : Type 0} (P Q : ℕ → X → Type 0) (R : X → X → Type 0) (n at : ℕ) (xs ys : List X) (held : EachAt P n xs) (changed : ChangedAt at R xs ys)
    (here : (x y : X) → P at x → R x y → Q at y) (others : (p : ℕ) (x : X) → p ≢ at → P p x → Q p x) where
  at_changed : (y : X) → slice_get ys at ≡ Some y → Q at y
  at_changed y is =
      let within = slice_get_within ys at y is in
      let same = changed.count in
      let found = some_at xs at (omega (arith, within, same)) in
      here found.0 y (held.each at found.0 found.1) (changed.here found.0 y found.1 is)

  at_place : (p : ℕ) (y : X) → slice_get ys p ≡ Some y → (p ≡ at) ⊎ (p ≡ at → ⊥) → Q p y
  at_place p y is (inl e) = subst (λ q. Q q y) (sym e) (at_changed y (ap (slice_get ys) (sym e) ∙ is))
  at_place p y is (inr other) = others p y other (held.each p y (sym (changed.others p other) ∙ is))

  pub each_changed : EachAt Q n ys
  each_changed = record { count = changed.count ∙ held.count; each = λ p y is. at_place p y is (cases_eq p at) }

-- ---- each at its place

-- what is made of each is what its place gives
listed_from : {X Y : Type 0} (f : X → Y) (G : ℕ → Y) (a : ℕ) (xs : List X)
    → ((p : ℕ) (x : X) → slice_get xs p ≡ Some x → f x ≡ G (a + p)) → map f xs ≡ map G (range_with_len a (length xs))
listed_from f G a [] h = refl
listed_from f G a (x ∷ xs) h =
    let first : a + 0 ≡ a = omega arith in
    let rest = listed_from f G (a + 1) xs (λ p y is. h (suc p) y is ∙ (let e : a + suc p ≡ a + 1 + p = omega arith in ap G e)) in
    λ i. (h 0 x refl ∙ ap G first) i ∷ rest i

pub listed : {X Y : Type 0} (f : X → Y) (G : ℕ → Y) (n : ℕ) (xs : List X) → EachAt (λ p x. f x ≡ G p) n xs → map f xs ≡ map G (range_with_len 0 n)
listed f G n xs held =
    listed_from f G 0 xs (λ p x is. held.each p x is ∙ (let e : p ≡ 0 + p = omega arith in ap G e))
    ∙ ap (λ m. map G (range_with_len 0 m)) held.count

beside_from : {X Y : Type 0} (R : X → Y → Type 0) (G : ℕ → Y) (a : ℕ) (xs : List X) (ys : List Y) → Each R xs ys
    → ((p : ℕ) (x : X) (y : Y) → slice_get xs p ≡ Some x → R x y → y ≡ G (a + p)) → ys ≡ map G (range_with_len a (length xs))
beside_from R G a [] [] each h = refl
beside_from R G a [] (y ∷ ys) each h = absurd each
beside_from R G a (x ∷ xs) [] each h = absurd each
beside_from R G a (x ∷ xs) (y ∷ ys) each h =
    let first : a + 0 ≡ a = omega arith in
    let rest = beside_from R G (a + 1) xs ys each.1 (λ p u v is r. h (suc p) u v is r ∙ (let e : a + suc p ≡ a + 1 + p = omega arith in ap G e)) in
    λ i. (h 0 x y refl each.0 ∙ ap G first) i ∷ rest i

-- the same of elements beside those
pub listed_beside : {X Y : Type 0} (R : X → Y → Type 0) (G : ℕ → Y) (n : ℕ) (xs : List X) (ys : List Y)
    → EachAt (λ p x. (y : Y) → R x y → y ≡ G p) n xs → Each R xs ys → ys ≡ map G (range_with_len 0 n)
listed_beside R G n xs ys held each =
    beside_from R G 0 xs ys each (λ p x y is r. held.each p x is y r ∙ (let e : p ≡ 0 + p = omega arith in ap G e))
    ∙ ap (λ m. map G (range_with_len 0 m)) held.count

-- what follows from either end of a call
pub of_either : {T E A B C : Type 0} (r : Result T E) → OnOk r A → OnErr r B → (A → C) → (B → C) → C
of_either (Ok x) a b ok err = ok a
of_either (Err x) a b ok err = err b

-- a list of one element
pub one_element : {X : Type 0} (xs : List X) (x : X) → length xs ≡ 1 → x ≡ get_or xs 0 x → xs ≡ x ∷ []
one_element [] x one is = absurd (omega (arith, one))
one_element (y ∷ []) x one is = ap (λ z. z ∷ []) (sym is)
one_element (y ∷ z ∷ xs) x one is = absurd (omega (arith, one))
