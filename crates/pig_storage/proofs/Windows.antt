-- The end of a line in a window of the bytes, and in the bytes.
use Rattle.std.proofs.Common.{◌≡◌, ℕ, zero, suc, ◌+◌, ◌-◌, ◌<◌, ◌≤◌, inl, inr, Bool, true, false, not, cond, List, [], ◌∷◌, length, take, drop, refl, sym, ◌∙◌, ap, arith}
use Rattle.std.specs.List.{position_or_len, prefix_len, slice_range}
use Rattle.std.proofs.lemmas.Bool.{cases_lt}
use Rattle.std.proofs.lemmas.List.{drop-drop, drop-take, drop_all, length-drop, length-take, take_all}
use Rattle.pig_value.specs.Lines.{is_lf}
use Rattle.pig_storage.specs.NextLine.{line_end}
use Rattle.pig_storage.specs.Windows.{HoldsEnd, TellsEnd}
use Rattle.pig_storage.proofs.Between.{prefix_cut}

-- what the first elements tell of all
prefix_told : {X : Type 0} (p : X → Bool) (xs : List X) (n : ℕ) → prefix_len p (take n xs) < length (take n xs) → prefix_len p (take n xs) ≡ prefix_len p xs
prefix_told p xs zero h = absurd (omega (arith, h))
prefix_told p [] (suc n) h = refl
prefix_told p (x ∷ xs) (suc n) h = step (p x) (λ j. prefix_told p xs n j) h
  where
    step : (t : Bool) → (prefix_len p (take n xs) < length (take n xs) → prefix_len p (take n xs) ≡ prefix_len p xs) → cond t (1 + prefix_len p (take n xs)) 0 < suc (length (take n xs)) → cond t (1 + prefix_len p (take n xs)) 0 ≡ cond t (1 + prefix_len p xs) 0
    step true on j = ap (λ m. 1 + m) (on (omega (arith, j)))
    step false on j = refl

module _ (from to place : ℕ) (bytes : List ℕ) (low : from ≤ place) where
  abbrev window : List ℕ
  window = slice_range bytes from to

  -- what the window holds from the place on
  abbrev held : List ℕ
  held = take (to - place) (drop place bytes)

  behind : drop (place - from) window ≡ held
  behind = elim (cases_lt to place) [
    | inl past ↦
        let few = length-take (to - from) (drop from bytes) in
        let none : to - place ≡ 0 = omega (arith, past) in
        drop_all (place - from) window (omega (arith, few, past, low)) ∙ sym (ap (λ k. take k (drop place bytes)) none)
    | inr within ↦
        let sum : to - from ≡ place - from + (to - place) = omega (arith, within, low) in
        let there : from + (place - from) ≡ place = omega (arith, low) in
        ap (λ k. drop (place - from) (take k (drop from bytes))) sum
        ∙ (drop-take (place - from) (to - place) (drop from bytes)
        ∙ ap (take (to - place)) (drop-drop (place - from) from bytes ∙ ap (λ k. drop k bytes) there))
  ]

  tells : position_or_len is_lf held ≡ position_or_len is_lf (drop place bytes) → TellsEnd bytes from to place
  tells is = let same = ap (position_or_len is_lf) behind in omega (arith, same, is, low)

  pub end_seen : HoldsEnd (slice_range bytes from to) (place - from) → TellsEnd bytes from to place
  end_seen here =
      let same = ap (position_or_len is_lf) behind in
      let size : length held ≡ length window - (place - from) = sym (ap length behind) ∙ length-drop (place - from) window in
      tells (prefix_told (λ b. not (is_lf b)) (drop place bytes) (to - place) (omega (arith, same, size, here)))

  pub end_held : line_end bytes place < to → TellsEnd bytes from to place
  end_held early = tells (prefix_cut (λ b. not (is_lf b)) (drop place bytes) (to - place) (omega (arith, early)))

  pub last_end : length bytes ≤ to → TellsEnd bytes from to place
  last_end all =
      let size = length-drop place bytes in
      tells (ap (position_or_len is_lf) (take_all (to - place) (drop place bytes) (omega (arith, size, all))))

  pub end_beyond : to ≤ length bytes → ¬ HoldsEnd (slice_range bytes from to) (place - from) → to ≤ line_end bytes place
  end_beyond full none = elim (cases_lt (line_end bytes place) to) [
    | inl early ↦
        let told = end_held early in
        let size : length window ≡ to - from = length-take (to - from) (drop from bytes) ∙ (let rest = length-drop from bytes in omega (arith, rest, full)) in
        absurd (none (omega (arith, told, size, early, low)))
    | inr beyond ↦ beyond
  ]
