-- Where one of two lists has ended, their order is that of their lengths.
use Rattle.std.proofs.Common.{◌≡◌, ℕ, suc, zero, ◌<◌, min, List, [], ◌∷◌, map, drop, length, refl, arith, sym, ◌∙◌, ap}
use Rattle.std.specs.Ordering.{nat_cmp, MatchOrdering}
use Rattle.std.specs.Cmp.{nat_cmp_is}
use Rattle.std.specs.Cmp.Lexicographic.{slice_cmp}
use Rattle.std.proofs.lemmas.Cmp.{ranked}
use Rattle.std.specs.declared.cmp.Ordering.{Ordering}
use Rattle.std.specs.declared.cmp.Ordering.TheVariants.{Less, Equal, Greater}

lifted : (a b : ℕ) (r : Ordering) → MatchOrdering r (a < b) (a ≡ b) (b < a) → MatchOrdering r (suc a < suc b) (suc a ≡ suc b) (suc b < suc a)
lifted a b Less h = omega arith
lifted a b Equal h = ap suc h
lifted a b Greater h = omega arith

suc_cmp : (a b : ℕ) → nat_cmp a b ≡ nat_cmp (suc a) (suc b)
suc_cmp a b = nat_cmp_is (suc a) (suc b) (nat_cmp a b) (lifted a b (nat_cmp a b) (ranked a b (nat_cmp a b) refl))

module _ {A V : Type 0} (R : A → A → Ordering) (f : V → A) where
  -- up to the end of the shorter list, counted down from the front
  ends_after : (xs ys : List V) (i : ℕ) → i ≡ min (length xs) (length ys)
      → slice_cmp R (map f (drop i xs)) (map f (drop i ys)) ≡ nat_cmp (length xs) (length ys)
  ends_after [] [] zero h = refl
  ends_after [] [] (suc i) h = refl
  ends_after [] (y ∷ ys) zero h = nat_cmp_is 0 (length (y ∷ ys)) Less (omega arith)
  ends_after [] (y ∷ ys) (suc i) h = absurd (let e : suc i ≡ min 0 (suc (length ys)) = h in omega arith)
  ends_after (x ∷ xs) [] zero h = nat_cmp_is (length (x ∷ xs)) 0 Greater (omega arith)
  ends_after (x ∷ xs) [] (suc i) h = absurd (let e : suc i ≡ min (suc (length xs)) 0 = h in omega arith)
  ends_after (x ∷ xs) (y ∷ ys) zero h = absurd (let e : 0 ≡ min (suc (length xs)) (suc (length ys)) = h in omega arith)
  ends_after (x ∷ xs) (y ∷ ys) (suc i) h =
      ends_after xs ys i (let e : suc i ≡ min (suc (length xs)) (suc (length ys)) = h in omega arith) ∙ suc_cmp (length xs) (length ys)

  -- what the loop's invariant gives at its end
  pub ends : (xs ys : List V) (i : ℕ) (r : Ordering) → i ≡ min (length xs) (length ys) → r ≡ nat_cmp (length xs) (length ys)
      → slice_cmp R (map f (drop i xs)) (map f (drop i ys)) ≡ slice_cmp R (map f xs) (map f ys) → r ≡ slice_cmp R (map f xs) (map f ys)
  ends xs ys i r at is invariant = is ∙ sym (ends_after xs ys i at) ∙ invariant
