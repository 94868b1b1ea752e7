-- A list beside a loop over it that goes by index: what an index finds, what stands before it and from it on.
use Rattle.std.specs.Prelude.{◌≡◌, ◌<◌, ◌+◌, ℕ, zero, suc, List, [], ◌∷◌, ◌++◌, length, take, drop, slice_get, Some, refl, map}
use Rattle.std.proofs.Common.{ap, sym, ◌∙◌, arith, add-one}
use Rattle.std.specs.Option.{option_map}
use Rattle.std.proofs.Math.Seq.{drop-nil, drop-cons, take-suc}
use Rattle.std.proofs.lemmas.Option.{slice_get_within, get_or_from_slice_get}

module _ {X : Type 0} where
  -- an index within the list finds something
  pub some_at : (xs : List X) (i : ℕ) → i < length xs → (x : X) × (slice_get xs i ≡ Some x)
  some_at [] i h = absurd (omega (arith, h))
  some_at (x ∷ xs) zero h = (x, refl)
  some_at (x ∷ xs) (suc i) h = some_at xs i (omega (arith, h))

  -- from an index on stands what it finds, and then what stands from the next on
  pub dropped : (xs : List X) (i : ℕ) (x : X) → slice_get xs i ≡ Some x → drop i xs ≡ x ∷ drop (i + 1) xs
  dropped xs i x h = drop-cons xs i x (slice_get_within xs i x h) ∙ (λ j. get_or_from_slice_get xs i x x h j ∷ drop (sym (add-one i) j) xs)

  -- what stands before the next index is what stands before this one, and then what it finds
  pub more_taken : (xs : List X) (i : ℕ) (x : X) → slice_get xs i ≡ Some x → take (i + 1) xs ≡ take i xs ++ x ∷ []
  more_taken xs i x h = ap (λ n. take n xs) (add-one i) ∙ take-suc xs i x (slice_get_within xs i x h) ∙ ap (λ y. take i xs ++ y ∷ []) (get_or_from_slice_get xs i x x h)

  -- one element from an index on
  pub take_one : (xs : List X) (i : ℕ) (x : X) → slice_get xs i ≡ Some x → take 1 (drop i xs) ≡ x ∷ []
  take_one xs i x h = ap (take 1) (dropped xs i x h)

  -- what an index finds in what stands from another on
  pub get-drop : (xs : List X) (n i : ℕ) → slice_get (drop n xs) i ≡ slice_get xs (n + i)
  get-drop xs zero i = let e : 0 + i ≡ i = omega arith in ap (slice_get xs) (sym e)
  get-drop [] (suc n) i = refl
  get-drop (x ∷ xs) (suc n) i = let e : suc n + i ≡ suc (n + i) = omega arith in get-drop xs n i ∙ ap (slice_get (x ∷ xs)) (sym e)

  -- leaving out twice
  pub drop-add : (xs : List X) (n m : ℕ) → drop m (drop n xs) ≡ drop (n + m) xs
  drop-add xs zero m = let e : 0 + m ≡ m = omega arith in ap (λ k. drop k xs) (sym e)
  drop-add [] (suc n) m = drop-nil m ∙ sym (drop-nil (suc n + m))
  drop-add (x ∷ xs) (suc n) m = let e : suc n + m ≡ suc (n + m) = omega arith in drop-add xs n m ∙ ap (λ k. drop k (x ∷ xs)) (sym e)

-- what an index finds once each element is mapped
pub get_map : {X Y : Type 0} (f : X → Y) (xs : List X) (i : ℕ) → slice_get (map f xs) i ≡ option_map f (slice_get xs i)
get_map f [] i = refl
get_map f (x ∷ xs) zero = refl
get_map f (x ∷ xs) (suc i) = get_map f xs i
