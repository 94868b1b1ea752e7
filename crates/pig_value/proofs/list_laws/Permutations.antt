-- What holds along every exchange of neighbours holds of any two lists of which one is the other in another order.
use Rattle.std.specs.Prelude.{◌≡◌, ◌<◌, ℕ, List, [], ◌∷◌, ◌++◌, length, refl, slice_set, slice_index_or}
use Rattle.std.proofs.Common.{ap, sym, append-nil, ◌∙◌, subst, arith, suc, zero, Bool, true, false, cond}
use Rattle.std.specs.List as lists
use Rattle.std.specs.List.{filter, flat_map, fold}
use Rattle.std.specs.List.Sorted.{IsPermutation}
use Rattle.std.proofs.lemmas.List.Sorted.{IsPermutation-keeps, IsPermutation-refl, IsPermutation-cons, IsPermutation-trans, IsPermutation-swap, IsPermutation-append, IsPermutation-append_right, IsPermutation-append_left, IsPermutation-append_comm, IsPermutation-middle}
use Rattle.std.proofs.lemmas.List.{append_assoc}

-- one list becomes the other by exchanges of neighbours
pub data Shuffled {X : Type 0} : List X → List X → Type 0 where
  same : (xs : List X) → Shuffled xs xs
  under : (x : X) {xs ys : List X} → Shuffled xs ys → Shuffled (x ∷ xs) (x ∷ ys)
  swapped : (x y : X) (zs : List X) → Shuffled (x ∷ y ∷ zs) (y ∷ x ∷ zs)
  after : {xs ys zs : List X} → Shuffled xs ys → Shuffled ys zs → Shuffled xs zs

module _ {X : Type 0} where
  -- the first element against the one at a place behind it
  exchanged : (x : X) (ys : List X) (k : ℕ) (d : X) → k < length ys → Shuffled (x ∷ ys) (slice_index_or ys k d ∷ slice_set ys k x)
  exchanged x [] k d h = absurd (omega arith)
  exchanged x (y ∷ ys) zero d h = swapped x y ys
  exchanged x (y ∷ ys) (suc k) d h =
      after (swapped x y ys) (after (under y (exchanged x ys k d (omega arith))) (swapped y (slice_index_or ys k d) (slice_set ys k x)))

  -- two elements against each other
  both_exchanged : (xs : List X) (i j : ℕ) (d : X) → i < length xs → j < length xs
      → Shuffled xs (slice_set (slice_set xs i (slice_index_or xs j d)) j (slice_index_or xs i d))
  both_exchanged [] i j d h k = absurd (omega arith)
  both_exchanged (x ∷ xs) zero zero d h k = same (x ∷ xs)
  both_exchanged (x ∷ xs) zero (suc j) d h k = exchanged x xs j d (omega arith)
  both_exchanged (x ∷ xs) (suc i) zero d h k = exchanged x xs i d (omega arith)
  both_exchanged (x ∷ xs) (suc i) (suc j) d h k = under x (both_exchanged xs i j d (omega arith) (omega arith))

  swap_shuffles : (xs : List X) (i j : ℕ) → i < length xs → j < length xs → Shuffled xs (lists.swap xs i j)
  swap_shuffles [] i j h k = same []
  swap_shuffles (x ∷ xs) i j h k = both_exchanged (x ∷ xs) i j x h k

  pub shuffled_from_permutation : (xs ys : List X) → IsPermutation xs ys → Shuffled xs ys
  shuffled_from_permutation xs ys h =
      IsPermutation-keeps xs (λ l. Shuffled xs l) (same xs) (λ l i j a b before. after before (swap_shuffles l i j a b)) ys h

  pub neighbours : (x y : X) (zs : List X) → IsPermutation (x ∷ y ∷ zs) (y ∷ x ∷ zs)
  neighbours x y zs = IsPermutation-swap (x ∷ y ∷ zs) (y ∷ x ∷ zs) 0 1 (omega arith) (omega arith) refl

-- a function that does not tell two neighbours' orders apart does not tell two orders of a list apart
module _ {X A : Type 0} (f : List X → A) (more : (x : X) (xs ys : List X) → f xs ≡ f ys → f (x ∷ xs) ≡ f (x ∷ ys)) (swaps : (x y : X) (zs : List X) → f (x ∷ y ∷ zs) ≡ f (y ∷ x ∷ zs)) where
  along_shuffled : {xs ys : List X} → Shuffled xs ys → f xs ≡ f ys
  along_shuffled (same xs) = refl
  along_shuffled (under x {xs} {ys} h) = more x xs ys (along_shuffled h)
  along_shuffled (swapped x y zs) = swaps x y zs
  along_shuffled (after h k) = along_shuffled h ∙ along_shuffled k

  pub along_permutation : (xs ys : List X) → IsPermutation xs ys → f xs ≡ f ys
  along_permutation xs ys h = along_shuffled (shuffled_from_permutation xs ys h)

pub IsPermutation-same : {X : Type 0} (xs ys : List X) → xs ≡ ys → IsPermutation xs ys
IsPermutation-same xs ys h = subst (IsPermutation xs) h (IsPermutation-refl xs)

module _ {X : Type 0} (p : X → Bool) where
  kept_under : (b : Bool) (x : X) (us vs : List X) → IsPermutation us vs → IsPermutation (cond b (x ∷ us) us) (cond b (x ∷ vs) vs)
  kept_under true x us vs h = IsPermutation-cons x us vs h
  kept_under false x us vs h = h

  kept_swapped : (b c : Bool) (x y : X) (us : List X)
      → IsPermutation (cond b (x ∷ cond c (y ∷ us) us) (cond c (y ∷ us) us)) (cond c (y ∷ cond b (x ∷ us) us) (cond b (x ∷ us) us))
  kept_swapped true true x y us = neighbours x y us
  kept_swapped true false x y us = IsPermutation-refl (x ∷ us)
  kept_swapped false true x y us = IsPermutation-refl (y ∷ us)
  kept_swapped false false x y us = IsPermutation-refl us

  filter_shuffled : {xs ys : List X} → Shuffled xs ys → IsPermutation (filter p xs) (filter p ys)
  filter_shuffled (same xs) = IsPermutation-refl (filter p xs)
  filter_shuffled (under x {xs} {ys} h) = kept_under (p x) x (filter p xs) (filter p ys) (filter_shuffled h)
  filter_shuffled (swapped x y zs) = kept_swapped (p x) (p y) x y (filter p zs)
  filter_shuffled (after {xs} {ys} {zs} h k) = IsPermutation-trans (filter p xs) (filter p ys) (filter p zs) (filter_shuffled h) (filter_shuffled k)

  pub IsPermutation-filter : (xs ys : List X) → IsPermutation xs ys → IsPermutation (filter p xs) (filter p ys)
  IsPermutation-filter xs ys h = filter_shuffled (shuffled_from_permutation xs ys h)

module _ {X Y : Type 0} (f : X → List Y) where
  joined_swapped : (us vs ws : List Y) → IsPermutation (us ++ (vs ++ ws)) (vs ++ (us ++ ws))
  joined_swapped us vs ws =
      subst (λ l. IsPermutation l (vs ++ (us ++ ws))) (append_assoc us vs ws)
      (subst (IsPermutation ((us ++ vs) ++ ws)) (append_assoc vs us ws) (IsPermutation-append_left ws (us ++ vs) (vs ++ us) (IsPermutation-append_comm us vs)))

  flat_map_shuffled : {xs ys : List X} → Shuffled xs ys → IsPermutation (flat_map f xs) (flat_map f ys)
  flat_map_shuffled (same xs) = IsPermutation-refl (flat_map f xs)
  flat_map_shuffled (under x {xs} {ys} h) = IsPermutation-append_right (f x) (flat_map f xs) (flat_map f ys) (flat_map_shuffled h)
  flat_map_shuffled (swapped x y zs) = joined_swapped (f x) (f y) (flat_map f zs)
  flat_map_shuffled (after {xs} {ys} {zs} h k) = IsPermutation-trans (flat_map f xs) (flat_map f ys) (flat_map f zs) (flat_map_shuffled h) (flat_map_shuffled k)

  pub IsPermutation-flat_map : (xs ys : List X) → IsPermutation xs ys → IsPermutation (flat_map f xs) (flat_map f ys)
  IsPermutation-flat_map xs ys h = flat_map_shuffled (shuffled_from_permutation xs ys h)

pub IsPermutation-flat_map_each : {X Y : Type 0} (f g : X → List Y) → ((x : X) → IsPermutation (f x) (g x)) → (xs : List X) → IsPermutation (flat_map f xs) (flat_map g xs)
IsPermutation-flat_map_each f g each [] = IsPermutation-refl []
IsPermutation-flat_map_each f g each (x ∷ xs) =
    IsPermutation-append (f x) (g x) (flat_map f xs) (flat_map g xs) (each x) (IsPermutation-flat_map_each f g each xs)

-- a fold from the left goes on with what a function gives that takes one more element at the front
module _ {X A : Type 0} (f : List X → A) (g : A → X → A) (front : (x : X) (xs : List X) → f (x ∷ xs) ≡ g (f xs) x) (same_of : (xs ys : List X) → IsPermutation xs ys → f xs ≡ f ys) where
  pub goes_on : (us vs : List X) → fold g (f us) vs ≡ f (us ++ vs)
  goes_on us [] = sym (ap f (append-nil us))
  goes_on us (v ∷ vs) =
      ap (λ a. fold g a vs) (sym (front v us)) ∙ goes_on (v ∷ us) vs
      ∙ sym (same_of (us ++ v ∷ vs) (v ∷ us ++ vs) (IsPermutation-middle us v vs))
