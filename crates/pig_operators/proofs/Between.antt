-- What stands from a place of a list up to another.
use Rattle.std.proofs.Common.{◌≡◌, zero, suc, ◌<◌, ◌≤◌, ◌+◌, ℕ, List, [], ◌∷◌, ◌++◌, length, take, drop, refl, ◌∙◌, ap, arith}
use Rattle.std.specs.Prelude.{Some, slice_get}
use Rattle.std.specs.List.{AllByRecursion}
use Rattle.std.proofs.lemmas.List.{length-take, drop-append-le}
use Rattle.pig_value.specs.Sorts.{Ascends}
use Rattle.std.specs.declared.cmp.Ordering.{Ordering}
use Rattle.pig_value.proofs.list_laws.Indexing.{more_taken}
use Rattle.pig_operators.specs.Groups.{between}

module _ {X : Type 0} where
  -- nothing stands from a place up to the same one
  pub between_none : (at : ℕ) (xs : List X) → between at at xs ≡ []
  between_none zero xs = refl
  between_none (suc n) [] = refl
  between_none (suc n) (x ∷ xs) = between_none n xs

  -- one more
  pub between_more : (from at : ℕ) (xs : List X) (x : X) → from ≤ at → at < length xs → slice_get xs at ≡ Some x → between from (at + 1) xs ≡ between from at xs ++ x ∷ []
  between_more from at xs x above within here =
      ap (drop from) (more_taken xs at x here)
      ∙ drop-append-le from (take at xs) (x ∷ []) (let size = length-take at xs in omega (arith, size, above, within))

  -- two parts in turn
  pub between_parts : (a b c : ℕ) (xs : List X) → a ≤ b → b ≤ c → between a c xs ≡ between a b xs ++ between b c xs
  between_parts zero zero c xs h k = refl
  between_parts zero (suc b) zero xs h k = absurd (omega (arith, k))
  between_parts zero (suc b) (suc c) [] h k = refl
  between_parts zero (suc b) (suc c) (x ∷ xs) h k = ap (λ l. x ∷ l) (between_parts zero b c xs (omega arith) (omega (arith, k)))
  between_parts (suc a) zero c xs h k = absurd (omega (arith, h))
  between_parts (suc a) (suc b) zero xs h k = absurd (omega (arith, k))
  between_parts (suc a) (suc b) (suc c) [] h k = refl
  between_parts (suc a) (suc b) (suc c) (x ∷ xs) h k = between_parts a b c xs (omega (arith, h)) (omega (arith, k))

  -- what stands from a place on
  pub between_rest : (a b : ℕ) (xs : List X) → a ≤ b → drop a xs ≡ between a b xs ++ drop b xs
  between_rest zero zero xs h = refl
  between_rest zero (suc b) [] h = refl
  between_rest zero (suc b) (x ∷ xs) h = ap (λ l. x ∷ l) (between_rest zero b xs (omega arith))
  between_rest (suc a) zero xs h = absurd (omega (arith, h))
  between_rest (suc a) (suc b) [] h = refl
  between_rest (suc a) (suc b) (x ∷ xs) h = between_rest a b xs (omega (arith, h))

  -- what holds at each place
  pub each_between : (P : X → Type 0) (a b : ℕ) (xs : List X) → ((k : ℕ) (x : X) → a ≤ k → k < b → slice_get xs k ≡ Some x → P x) → AllByRecursion P (between a b xs)
  each_between P zero zero xs h = tt
  each_between P zero (suc b) [] h = tt
  each_between P zero (suc b) (x ∷ xs) h = (
    h zero x (omega arith) (omega arith) refl,
    each_between P zero b xs (λ k y low high here. h (suc k) y (omega arith) (omega (arith, high)) here),
  )
  each_between P (suc a) zero xs h = tt
  each_between P (suc a) (suc b) [] h = tt
  each_between P (suc a) (suc b) (x ∷ xs) h = each_between P a b xs (λ k y low high here. h (suc k) y (omega (arith, low)) (omega (arith, high)) here)

  -- the first of them stands at the place
  pub first_between : (a b : ℕ) (xs : List X) (x : X) → slice_get (between a b xs) 0 ≡ Some x → (a < b) × (slice_get xs a ≡ Some x)
  first_between zero zero xs x h = absurd (cc)
  first_between zero (suc b) [] x h = absurd (cc)
  first_between zero (suc b) (y ∷ xs) x h = (omega arith, h)
  first_between (suc a) zero xs x h = absurd (cc)
  first_between (suc a) (suc b) [] x h = absurd (cc)
  first_between (suc a) (suc b) (y ∷ xs) x h = let found = first_between a b xs x h in let low = found.0 in (omega (arith, low), found.1)

  pub first_behind : (a : ℕ) (xs : List X) (x : X) (ys : List X) → drop a xs ≡ x ∷ ys → (a < length xs) × (slice_get xs a ≡ Some x)
  first_behind zero [] x ys h = absurd (cc)
  first_behind zero (z ∷ xs) x ys h = (omega arith, (let wanted : Some z ≡ Some x = cc in wanted))
  first_behind (suc a) [] x ys h = absurd (cc)
  first_behind (suc a) (z ∷ xs) x ys h = let found = first_behind a xs x ys h in let low = found.0 in (omega (arith, low), found.1)

  -- what holds of each of two lists in turn
  pub each_behind : (P : X → Type 0) (xs ys : List X) → AllByRecursion P (xs ++ ys) → AllByRecursion P ys
  each_behind P [] ys h = h
  each_behind P (x ∷ xs) ys h = each_behind P xs ys h.1

  pub ascends_behind : (R : X → X → Ordering) (xs ys : List X) → Ascends R (xs ++ ys) → Ascends R ys
  ascends_behind R [] ys h = h
  ascends_behind R (x ∷ xs) ys h = ascends_behind R xs ys h.1

  pub ascends_before : (R : X → X → Ordering) (xs ys : List X) → Ascends R (xs ++ ys) → Ascends R xs
  ascends_before R [] ys h = tt
  ascends_before R (x ∷ []) ys h = (tt, tt)
  ascends_before R (x ∷ y ∷ xs) ys h = (h.0, ascends_before R (y ∷ xs) ys h.1)
