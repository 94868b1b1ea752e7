-- The lines of a piece, split by split.
use Rattle.std.proofs.Common.{◌≡◌, ◌+◌, ◌-◌, ◌*◌, ◌/◌, ◌%◌, ◌<◌, ◌≤◌, ◌++◌, ℕ, zero, suc, min, inl, inr, List, [], ◌∷◌, length, map, refl, sym, ◌∙◌, ap, subst, arith}
use Rattle.std.specs.List.{flat_map, range_with_len, AllByRecursion}
use Rattle.std.proofs.Math.Nat.{add-mul, mod-lt, mul-le-mul_right, suc-mul}
use Rattle.std.proofs.lemmas.Nat.{div-add-mod'}
use Rattle.std.proofs.lemmas.Bool.{cases_lt}
use Rattle.std.proofs.lemmas.List.{append-nil, length-append}
use Rattle.pig_value.specs.Lines.{lines, lines_within}
use Rattle.pig_storage.specs.declared.splits.Split.{Split}
use Rattle.pig_storage.specs.Splits.{split_at, split_count, splits_of_piece}
use Rattle.pig_value.proofs.list_laws.Listing.{each-map, each_weaker}
use Rattle.pig_value.proofs.list_laws.Elementwise.{range_below}
use Rattle.pig_storage.proofs.Starts.{parts_join, whole_is}

-- no line starts in a range without places
no_lines : (xs : List (List ℕ)) → xs ++ xs ≡ xs → xs ≡ []
no_lines [] h = refl
no_lines (x ∷ xs) h = let size = length-append (x ∷ xs) (x ∷ xs) in let same = ap length h in absurd (omega (arith, size, same))

none_between : (at : ℕ) (bytes : List ℕ) → lines_within at at bytes ≡ []
none_between at bytes = no_lines (lines_within at at bytes) (parts_join at at at bytes (omega arith) (omega arith))

module _ (split piece : ℕ) (bytes : List ℕ) where
  abbrev size : ℕ
  size = length bytes

  abbrev lines_of : Split → List (List ℕ)
  lines_of s = lines_within s.from s.to bytes

  -- so many splits from one on: all but the last are whole
  in_turn : (k n : ℕ) → (k + n - 1) * split ≤ size → k * split ≤ size → flat_map lines_of (map (split_at split piece size) (range_with_len k n)) ≡ lines_within (k * split) (min ((k + n) * split) size) bytes
  in_turn k zero most low =
      let end : min ((k + 0) * split) size ≡ k * split = let e : k + 0 ≡ k = omega arith in ap (λ m. min (m * split) size) e ∙ omega (arith, low) in
      sym (ap (λ to. lines_within (k * split) to bytes) end ∙ none_between (k * split) bytes)
  in_turn k (suc zero) most low =
      let end : k + 1 ≡ k + suc zero = omega arith in
      append-nil (lines_within (k * split) (min ((k + 1) * split) size) bytes) ∙ ap (λ m. lines_within (k * split) (min (m * split) size) bytes) end
  in_turn k (suc (suc n)) most low =
      let next : k + 1 + suc n ≡ k + suc (suc n) = omega arith in
      let last : k + 1 + suc n - 1 ≡ k + suc (suc n) - 1 = omega arith in
      let step : suc k * split ≡ k * split + split = suc-mul k split in
      let one : k + 1 ≡ suc k = omega arith in
      let end : (k + 1) * split ≡ k * split + split = ap (λ m. m * split) one ∙ step in
      let rest : (k + suc (suc n) - 1) * split ≡ (k + 1) * split + n * split = (let e : k + suc (suc n) - 1 ≡ k + 1 + n = omega arith in ap (λ m. m * split) e ∙ add-mul (k + 1) n split) in
      let all : (k + suc (suc n)) * split ≡ (k + suc (suc n) - 1) * split + split = (let e : k + suc (suc n) ≡ suc (k + suc (suc n) - 1) = omega arith in ap (λ m. m * split) e ∙ suc-mul (k + suc (suc n) - 1) split) in
      let within : (k + 1) * split ≤ size = omega (arith, most, rest) in
      let here : min ((k + 1) * split) size ≡ (k + 1) * split = omega (arith, within) in
      let more = in_turn (k + 1) (suc n) (subst (λ m. m * split ≤ size) (sym last) most) within in
      let joined = parts_join (k * split) ((k + 1) * split) (min ((k + suc (suc n)) * split) size) bytes (omega (arith, end)) (omega (arith, all, rest, within)) in
      (λ i. lines_within (k * split) (here i) bytes ++ more i)
      ∙ ap (λ m. lines_within (k * split) ((k + 1) * split) bytes ++ lines_within ((k + 1) * split) (min (m * split) size) bytes) next
      ∙ joined

  pub splits_are : 0 < split → flat_map lines_of (splits_of_piece split piece size) ≡ lines bytes
  splits_are some =
      let q : ℕ = (size + split - 1) / split in
      let r : ℕ = (size + split - 1) % split in
      let cut : q * split + r ≡ size + split - 1 = div-add-mod' (size + split - 1) split in
      let less : r < split = mod-lt (size + split - 1) some in
      elim (cases_lt 0 q) [
        | inl many ↦
            let no_split : 0 * split ≡ 0 = omega arith in
            let n : split_count split size ≡ q = omega (arith, many) in
            let before : q * split ≡ (q - 1) * split + split = (let e : q ≡ suc (q - 1) = omega (arith, many) in ap (λ m. m * split) e ∙ suc-mul (q - 1) split) in
            let most : (0 + q - 1) * split ≤ size = let e : 0 + q - 1 ≡ q - 1 = omega arith in subst (λ m. m * split ≤ size) (sym e) (omega (arith, cut, before, less, some)) in
            let end : min ((0 + q) * split) size ≡ size = let e : (0 + q) * split ≡ q * split = (let z : 0 + q ≡ q = omega arith in ap (λ m. m * split) z) in omega (arith, e, cut, less) in
            ap (λ m. flat_map lines_of (map (split_at split piece size) (range_with_len 0 m))) n
            ∙ in_turn 0 q most (omega arith)
            ∙ (λ i. lines_within (no_split i) (end i) bytes) ∙ whole_is size bytes (omega arith)
        | inr none ↦
            let zero_is : q ≡ 0 = omega (arith, none) in
            let n : split_count split size ≡ 1 = omega (arith, none) in
            let no_split : 0 * split ≡ 0 = omega arith in
            let gone : q * split ≡ 0 = ap (λ m. m * split) zero_is ∙ no_split in
            let end : min ((0 + 1) * split) size ≡ size = let e : (0 + 1) * split ≡ split = omega arith in omega (arith, e, cut, gone, less) in
            ap (λ m. flat_map lines_of (map (split_at split piece size) (range_with_len 0 m))) n
            ∙ in_turn 0 1 (omega arith) (omega arith)
            ∙ (λ i. lines_within (no_split i) (end i) bytes) ∙ whole_is size bytes (omega arith)
      ]

-- each split stands within the piece: none begins behind its end
module _ (split piece size : ℕ) (some : 0 < split) where
  abbrev count : ℕ
  count = split_count split size

  last_begins : (count - 1) * split ≤ size
  last_begins = elim (cases_lt 0 q) [
    | inl many ↦
        let n : count - 1 ≡ q - 1 = omega (arith, many) in
        let before : q * split ≡ (q - 1) * split + split = (let e : q ≡ suc (q - 1) = omega (arith, many) in ap (λ m. m * split) e ∙ suc-mul (q - 1) split) in
        subst (λ m. m * split ≤ size) (sym n) (omega (arith, cut, before, some))
    | inr none ↦
        let n : count - 1 ≡ 0 = omega (arith, none) in
        let gone : 0 * split ≡ 0 = omega arith in
        subst (λ m. m * split ≤ size) (sym n) (omega (arith, gone))
  ]
    where
      q : ℕ
      q = (size + split - 1) / split

      cut : q * split + (size + split - 1) % split ≡ size + split - 1
      cut = div-add-mod' (size + split - 1) split

  split_within : (i : ℕ) → i < 0 + count → ((split_at split piece size i).piece ≡ piece) × ((split_at split piece size i).from ≤ (split_at split piece size i).to) × ((split_at split piece size i).to ≤ size)
  split_within i below =
      let step : (i + 1) * split ≡ i * split + split = (let e : i + 1 ≡ suc i = omega arith in ap (λ m. m * split) e ∙ suc-mul i split) in
      let fewer : i ≤ count - 1 = omega (arith, below) in
      let low = mul-le-mul_right split fewer in
      let last = last_begins in
      (refl, omega (arith, step, low, last), omega arith)

  pub splits_within : AllByRecursion (λ s. (s.piece ≡ piece) × (s.from ≤ s.to) × (s.to ≤ size)) (splits_of_piece split piece size)
  splits_within =
      each-map (λ s. (s.piece ≡ piece) × (s.from ≤ s.to) × (s.to ≤ size)) (split_at split piece size) (range_with_len 0 count)
      (each_weaker (λ i. i < 0 + count) (λ i. ((split_at split piece size i).piece ≡ piece) × ((split_at split piece size i).from ≤ (split_at split piece size i).to) × ((split_at split piece size i).to ≤ size)) split_within (range_with_len 0 count) (range_below 0 count))
