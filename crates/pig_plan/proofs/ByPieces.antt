-- Operators that go row by row go piece by piece.
use Rattle.std.specs.Prelude.{◌≡◌, Bool, List, [], ◌∷◌, ◌++◌, refl, true, false}
use Rattle.std.proofs.Common.{ap, sym, ◌∙◌, cond, append_assoc}
use Rattle.std.specs.List.{filter, flat_map}

module _ {X : Type 0} (p : X → Bool) where
  filter-append : (xs ys : List X) → filter p (xs ++ ys) ≡ filter p xs ++ filter p ys
  filter-append [] ys = refl
  filter-append (x ∷ xs) ys = by_test (p x) (filter-append xs ys)
    where
      by_test : (b : Bool) → filter p (xs ++ ys) ≡ filter p xs ++ filter p ys → cond b (x ∷ filter p (xs ++ ys)) (filter p (xs ++ ys)) ≡ cond b (x ∷ filter p xs) (filter p xs) ++ filter p ys
      by_test true more = ap (λ zs. x ∷ zs) more
      by_test false more = more

  pub filter_pieces : (pieces : List (List X)) → filter p (flat_map (λ piece. piece) pieces) ≡ flat_map (filter p) pieces
  filter_pieces [] = refl
  filter_pieces (piece ∷ pieces) = filter-append piece (flat_map (λ q. q) pieces) ∙ ap (λ zs. filter p piece ++ zs) (filter_pieces pieces)

module _ {X Y : Type 0} where
  flat_map-append : (f : X → List Y) (xs ys : List X) → flat_map f (xs ++ ys) ≡ flat_map f xs ++ flat_map f ys
  flat_map-append f [] ys = refl
  flat_map-append f (x ∷ xs) ys = ap (λ zs. f x ++ zs) (flat_map-append f xs ys) ∙ sym (append_assoc (f x) (flat_map f xs) (flat_map f ys))

  pub flat_map_pieces : (f : X → List Y) (pieces : List (List X)) → flat_map f (flat_map (λ piece. piece) pieces) ≡ flat_map (flat_map f) pieces
  flat_map_pieces f [] = refl
  flat_map_pieces f (piece ∷ pieces) = flat_map-append f piece (flat_map (λ q. q) pieces) ∙ ap (λ zs. flat_map f piece ++ zs) (flat_map_pieces f pieces)

module _ {X Y : Type 0} where
  -- inputs that each come in pieces, one after the other
  pub union_pieces : (pieces : X → List (List Y)) (inputs : List X) → flat_map (λ i. flat_map (λ piece. piece) (pieces i)) inputs ≡ flat_map (λ piece. piece) (flat_map pieces inputs)
  union_pieces pieces [] = refl
  union_pieces pieces (i ∷ inputs) =
      ap (λ zs. flat_map (λ piece. piece) (pieces i) ++ zs) (union_pieces pieces inputs) ∙ sym (flat_map-append (λ piece. piece) (pieces i) (flat_map pieces inputs))
