-- Bytes that are cut at a byte, and the parts between.
use Rattle.std.proofs.Common.{◌≡◌, ℕ, ◌+◌, ◌-◌, ◌<◌, ◌≤◌, Bool, true, false, not, nat_lt, List, [], ◌∷◌, length, get_or, Option, Some, None, if◌then◌else◌, refl, sym, ap, subst₂, arith, rules}
use Rattle.std.specs.List.{slice_split, position_or_len, before_first, after_first}
use Rattle.std.specs.Option.{unwrap_or}
use Rattle.std.proofs.lemmas.List.{length-drop}
use Rattle.std.proofs.lemmas.Bool.{ltb-true, ltb-false}
use Rattle.std.proofs.lemmas.List.Elements.{All-from_get_or}
use Rattle.std.proofs.lemmas.List.Splits.{slice_split_first, slice_split_none}
use Rattle.std.proofs.lemmas.List.Sums.{prefix_len_passes}
use Rattle.pig_params.specs.Cuts.{cut_at, is_byte}

-- a cut gives the first part, and the others are those of what is left
pub record IsCut (c : ℕ) (bs front back : List ℕ) : Type 0 where
  pub parts : slice_split (is_byte c) bs ≡ front ∷ slice_split (is_byte c) back
  pub lengths : length front + (length back + 1) ≡ length bs

cut_here : (c : ℕ) (bs : List ℕ) → position_or_len (is_byte c) bs < length bs → IsCut c bs (before_first (is_byte c) bs) (after_first (is_byte c) bs)
cut_here c bs within = record {
  parts = slice_split_first (is_byte c) bs 0 within;
  lengths =
      let front : length (before_first (is_byte c) bs) ≡ position_or_len (is_byte c) bs = search (rules, arith) in
      let back : length (after_first (is_byte c) bs) ≡ length bs - (position_or_len (is_byte c) bs + 1) = length-drop (position_or_len (is_byte c) bs + 1) bs in
      omega arith;
}

pub cut : (c : ℕ) (bs front back : List ℕ) → ◌≡◌ {A = Option (List ℕ × List ℕ)} (Some (front, back)) (cut_at c bs) → IsCut c bs front back
cut c bs front back e = by (nat_lt (position_or_len (is_byte c) bs) (length bs)) refl e
  where
    by : (t : Bool) → nat_lt (position_or_len (is_byte c) bs) (length bs) ≡ t
        → ◌≡◌ {A = Option (List ℕ × List ℕ)} (Some (front, back)) (if t then Some (before_first (is_byte c) bs, after_first (is_byte c) bs) else None) → IsCut c bs front back
    by true within e =
        let front_is : before_first (is_byte c) bs ≡ front = ap (λ o. (unwrap_or {T = List ℕ × List ℕ} o ([], [])).0) (sym e) in
        let back_is : after_first (is_byte c) bs ≡ back = ap (λ o. (unwrap_or {T = List ℕ × List ℕ} o ([], [])).1) (sym e) in
        subst₂ (IsCut c bs) front_is back_is (cut_here c bs (ltb-true _ _ within))
    by false within e = absurd (cc)

-- a test that does not pass fails
not_passing : (b : Bool) → not b ≡ true → b ≡ false
not_passing true h = absurd (cc)
not_passing false h = refl

past : (c : ℕ) (bs : List ℕ) → length bs ≤ position_or_len (is_byte c) bs → slice_split (is_byte c) bs ≡ bs ∷ []
past c bs h =
    slice_split_none (is_byte c) bs (All-from_get_or (λ x. is_byte c x ≡ false) bs 0 (λ k l. not_passing (is_byte c (get_or bs k 0)) (prefix_len_passes (λ x. not (is_byte c x)) bs k 0 (omega (arith, h, l)))))

-- where nothing is cut, there is one part
pub uncut : (c : ℕ) (bs : List ℕ) → None ≡ cut_at c bs → slice_split (is_byte c) bs ≡ bs ∷ []
uncut c bs e = by (nat_lt (position_or_len (is_byte c) bs) (length bs)) refl e
  where
    by : (t : Bool) → nat_lt (position_or_len (is_byte c) bs) (length bs) ≡ t
        → ◌≡◌ {A = Option (List ℕ × List ℕ)} None (if t then Some (before_first (is_byte c) bs, after_first (is_byte c) bs) else None) → slice_split (is_byte c) bs ≡ bs ∷ []
    by true within e = absurd (cc)
    by false within e = past c bs (ltb-false _ _ within)
