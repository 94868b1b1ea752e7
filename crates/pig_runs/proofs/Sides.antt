-- Rows under one key stand by their sides, and then by the bytes that these don't tell.
use Rattle.std.proofs.Common.{◌≡◌, ◌+◌, ℕ, zero, suc, List, [], ◌∷◌, length, take, drop, refl, arith, sym, ◌∙◌, ap, subst}
use Rattle.std.specs.Ordering.{ordering_then, ordering_reverse, nat_cmp}
use Rattle.std.specs.declared.cmp.Ordering.{Ordering}
use Rattle.std.specs.declared.cmp.Ordering.TheVariants.{Less, Equal, Greater}
use Rattle.pig_value.specs.Orders.{text_cmp}
use Rattle.pig_keycode.proofs.TextOrder.{then_assoc}
use Rattle.pig_keycode.proofs.Unique.{same_bytes}
use Rattle.pig_runs.specs.Fronts.{against, side_number, side_of, untold}
use Rattle.pig_runs.proofs.FrontOrder.{texts_total}

-- texts stand by their first so many bytes, and then by the rest
split : (n : ℕ) (s t : List ℕ) → text_cmp s t ≡ ordering_then (text_cmp (take n s) (take n t)) (text_cmp (drop n s) (drop n t))
split zero s t = refl
split (suc n) [] [] = refl
split (suc n) [] (b ∷ t) = refl
split (suc n) (a ∷ s) [] = refl
split (suc n) (a ∷ s) (b ∷ t) =
    ap (ordering_then (nat_cmp a b)) (split n s t) ∙ sym (then_assoc (nat_cmp a b) (text_cmp (take n s) (take n t)) (text_cmp (drop n s) (drop n t)))

by_first : (n : ℕ) (s t : List ℕ) (r : Ordering) → text_cmp (take n s) (take n t) ≡ r → ordering_then r (text_cmp (drop n s) (drop n t)) ≡ text_cmp s t
by_first n s t r is = sym (split n s t ∙ ap (λ o. ordering_then o (text_cmp (drop n s) (drop n t))) is)

turned : (s t : List ℕ) (r : Ordering) → text_cmp s t ≡ r → text_cmp t s ≡ ordering_reverse r
turned s t r is = texts_total.antisymm t s ∙ ap ordering_reverse is

-- what is left to compare of a text that stands so to those that begin with another one
left : Ordering → ℕ → List ℕ → List ℕ
left Less n s = s
left Equal n s = drop n s
left Greater n s = s

module _ (n : ℕ) (p s t : List ℕ) where
  -- both to the texts that begin with p, and so to each other
  by_sides : (q r : Ordering) → text_cmp (take n s) p ≡ q → text_cmp (take n t) p ≡ r
      → ordering_then (nat_cmp (side_number q) (side_number r)) (text_cmp (left q n s) (left r n t)) ≡ text_cmp s t
  unfolding left
  by_sides Less Less h k = refl
  by_sides Less Equal h k = by_first n s t Less (subst (λ u. text_cmp (take n s) u ≡ Less) (sym (same_bytes (take n t) p k)) h)
  by_sides Less Greater h k = by_first n s t Less (texts_total.trans (take n s) p (take n t) h (turned (take n t) p Greater k))
  by_sides Equal Less h k = by_first n s t Greater (subst (λ u. text_cmp u (take n t) ≡ Greater) (sym (same_bytes (take n s) p h)) (turned (take n t) p Less k))
  by_sides Equal Equal h k = by_first n s t Equal (subst (λ u. text_cmp (take n s) u ≡ Equal) (sym (same_bytes (take n t) p k)) h)
  by_sides Equal Greater h k = by_first n s t Less (subst (λ u. text_cmp u (take n t) ≡ Less) (sym (same_bytes (take n s) p h)) (turned (take n t) p Greater k))
  by_sides Greater Less h k = by_first n s t Greater (turned (take n t) (take n s) Less (texts_total.trans (take n t) p (take n s) k (turned (take n s) p Greater h)))
  by_sides Greater Equal h k = by_first n s t Greater (subst (λ u. text_cmp (take n s) u ≡ Greater) (sym (same_bytes (take n t) p k)) h)
  by_sides Greater Greater h k = refl

-- a row stands to those that begin with the key as its first bytes to the key with what stands before it
against_is : (key s : List ℕ) → text_cmp (take (suc (suc (length key))) s) (6 ∷ 1 ∷ key) ≡ against key s
against_is key [] = refl
against_is key (a ∷ []) = sym (then_assoc (nat_cmp a 6) Less (text_cmp (take (length key) []) key))
against_is key (a ∷ b ∷ s) =
    let last : Ordering = text_cmp (take (length key) s) key in
    ap (ordering_then (nat_cmp a 6)) (sym (then_assoc (nat_cmp b 1) Equal last)) ∙ sym (then_assoc (nat_cmp a 6) (ordering_then (nat_cmp b 1) Equal) last)

left_is : (q : Ordering) (key s : List ℕ) → untold (side_number q) (length key) s ≡ left q (suc (suc (length key))) s
unfolding left
left_is Less key s = refl
left_is Equal key s = let len : length key + 2 ≡ suc (suc (length key)) = omega arith in ap (λ n. drop n s) len
left_is Greater key s = refl

pub row_order : (key s t : List ℕ)
    → ordering_then (nat_cmp (side_of key s) (side_of key t)) (text_cmp (untold (side_of key s) (length key) s) (untold (side_of key t) (length key) t)) ≡ text_cmp s t
row_order key s t =
    let q : Ordering = against key s in
    let r : Ordering = against key t in
    (λ i. ordering_then (nat_cmp (side_number q) (side_number r)) (text_cmp (left_is q key s i) (left_is r key t i)))
    ∙ by_sides (suc (suc (length key))) (6 ∷ 1 ∷ key) s t q r (against_is key s) (against_is key t)
