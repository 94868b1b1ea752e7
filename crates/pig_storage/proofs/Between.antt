-- The lines that start in a range stand between two starts of lines.
use Rattle.std.proofs.Common.{◌≡◌, ◌+◌, ◌-◌, ◌<◌, ◌≤◌, ℕ, zero, suc, min, inl, inr, Bool, true, false, not, cond, List, [], ◌∷◌, length, map, take, drop, refl, sym, ◌∙◌, ap, arith}
use Rattle.std.specs.List.{filter, position_or_len, prefix_len, slice_range}
use Rattle.std.specs.Str.Lines.{strip_carriage_return}
use Rattle.std.proofs.lemmas.Bool.{cases_lt}
use Rattle.std.proofs.lemmas.List.{drop-drop, drop-take, length-drop, length-take, take-take, take_min}
use Rattle.std.proofs.lemmas.List.Sums.{prefix_len-le-length}
use Rattle.pig_value.specs.Lines.{is_lf, lines, lines_from, lines_within, starts_within, stored_lines}
use Rattle.pig_storage.specs.NextLine.{line_end}
use Rattle.pig_storage.specs.Splits.{first_start}
use Rattle.pig_storage.proofs.FirstLine.{first_stored}
use Rattle.pig_storage.proofs.Starts.{inside, kept, left_out, none_late, too_early}

module _ {X : Type 0} (p : X → Bool) where
  -- a prefix without its first elements, and one of a list that is cut behind it
  prefix_behind : (xs : List X) (k : ℕ) → k ≤ prefix_len p xs → k + prefix_len p (drop k xs) ≡ prefix_len p xs
  prefix_behind xs zero h = omega arith
  prefix_behind [] (suc k) h = absurd (omega (arith, h))
  prefix_behind (x ∷ xs) (suc k) h = step (p x) (λ j. prefix_behind xs k j) h
    where
      step : (t : Bool) → (k ≤ prefix_len p xs → k + prefix_len p (drop k xs) ≡ prefix_len p xs) → suc k ≤ cond t (1 + prefix_len p xs) 0 → suc k + prefix_len p (drop k xs) ≡ cond t (1 + prefix_len p xs) 0
      step true on j = let e = on (omega (arith, j)) in omega (arith, e)
      step false on j = absurd (omega (arith, j))

  pub prefix_cut : (xs : List X) (n : ℕ) → prefix_len p xs < n → prefix_len p (take n xs) ≡ prefix_len p xs
  prefix_cut xs zero h = absurd (omega (arith, h))
  prefix_cut [] (suc n) h = refl
  prefix_cut (x ∷ xs) (suc n) h = step (p x) (λ j. prefix_cut xs n j) h
    where
      step : (t : Bool) → (prefix_len p xs < n → prefix_len p (take n xs) ≡ prefix_len p xs) → cond t (1 + prefix_len p xs) 0 < suc n → cond t (1 + prefix_len p (take n xs)) 0 ≡ cond t (1 + prefix_len p xs) 0
      step true on j = ap (λ m. 1 + m) (on (omega (arith, j)))
      step false on j = refl

abbrev place_of : List ℕ → ℕ
place_of = position_or_len is_lf

place_within : (bs : List ℕ) → place_of bs ≤ length bs
place_within bs = prefix_len-le-length (λ b. not (is_lf b)) bs

pub start_within : (bs : List ℕ) (q : ℕ) → first_start bs q ≤ length bs
start_within bs zero = omega arith
start_within bs (suc p) = omega arith

-- a start behind the first line, as one of what stands behind it
start_behind : (bs : List ℕ) (q : ℕ) → 0 < q → first_start bs q ≡ min (place_of bs + 1 + first_start (drop (place_of bs + 1) bs) (q - (place_of bs + 1))) (length bs)
start_behind bs zero h = absurd (omega (arith, h))
start_behind bs (suc p) h = elim (cases_lt (place_of bs) p) [
  | inl behind ↦
      let r : ℕ = p - (place_of bs + 1) in
      let rest : List ℕ = drop (place_of bs + 1) bs in
      let q : suc p - (place_of bs + 1) ≡ suc r = omega arith in
      let there : place_of bs + 1 + r ≡ p = omega arith in
      let same : drop r rest ≡ drop p bs = drop-drop r (place_of bs + 1) bs ∙ ap (λ k. drop k bs) there in
      let one : place_of (drop r rest) ≡ place_of (drop p bs) = ap place_of same in
      let size : length rest ≡ length bs - (place_of bs + 1) = length-drop (place_of bs + 1) bs in
      let ends : line_end bs p ≡ place_of bs + 1 + line_end rest r = omega (arith, one, there) in
      let inner : first_start rest (suc p - (place_of bs + 1)) ≡ min (line_end rest r + 1) (length rest) = ap (first_start rest) q in
      let w = place_within bs in
      omega (arith, ends, inner, size, w)
  | inr before ↦
      let none : suc p - (place_of bs + 1) ≡ 0 = omega arith in
      let first : first_start (drop (place_of bs + 1) bs) (suc p - (place_of bs + 1)) ≡ 0 = ap (first_start (drop (place_of bs + 1) bs)) none in
      let ends : line_end bs p ≡ place_of bs = prefix_behind (λ b. not (is_lf b)) bs p before in
      omega (arith, first, ends)
]

-- starts stand in the order of their places
pub starts_ascend : (fuel : ℕ) (bs : List ℕ) (p q : ℕ) → length bs ≤ fuel → p ≤ q → first_start bs p ≤ first_start bs q
starts_ascend fuel bs zero q few h = omega arith
starts_ascend fuel bs (suc p) zero few h = absurd (omega (arith, h))
starts_ascend zero bs (suc p) (suc q) few h = omega (arith, few)
starts_ascend (suc fuel) bs (suc p) (suc q) few h =
    let rest : List ℕ = drop (place_of bs + 1) bs in
    let a = start_behind bs (suc p) (omega arith) in
    let b = start_behind bs (suc q) (omega arith) in
    let size : length rest ≡ length bs - (place_of bs + 1) = length-drop (place_of bs + 1) bs in
    let on = starts_ascend fuel rest (suc p - (place_of bs + 1)) (suc q - (place_of bs + 1)) (omega (arith, few, size)) (omega (arith, h)) in
    omega (arith, a, b, on)

abbrev within : ℕ → ℕ → ℕ → List (List ℕ) → List (List ℕ)
within from to at ps = map (λ (line : ℕ × List ℕ). line.1) (filter (starts_within from to) (lines_from at ps))

abbrev between : List ℕ → ℕ → ℕ → List (List ℕ)
between bs a b = lines (slice_range bs (first_start bs a) (first_start bs b))

-- the lines of a text that is cut behind its first line
lines_cut : (bs : List ℕ) (m : ℕ) → 0 < length bs → lines (take (place_of bs + 1 + m) bs) ≡ strip_carriage_return (take (place_of bs) bs) ∷ lines (take m (drop (place_of bs + 1) bs))
lines_cut bs m some =
    let n : ℕ = place_of bs in
    let cut : List ℕ = take (n + 1 + m) bs in
    let place : n ≡ place_of cut = sym (prefix_cut (λ b. not (is_lf b)) bs (n + 1 + m) (omega arith)) in
    let size : 0 < length cut = omega (arith, some, length-take (n + 1 + m) bs) in
    let first : take n cut ≡ take n bs = take-take n (n + 1 + m) bs (omega arith) in
    ap (map strip_carriage_return) (first_stored cut n place size)
    ∙ (λ i. strip_carriage_return (first i) ∷ lines (drop-take (n + 1) m bs i))

-- the first line starts in the range: it is followed by what the rest has
here : (bs : List ℕ) (at from to : ℕ) → 0 < length bs → from ≤ at → at < to
    → within from to (at + length (take (place_of bs) bs) + 1) (stored_lines (drop (place_of bs + 1) bs)) ≡ between (drop (place_of bs + 1) bs) 0 (to - at - (place_of bs + 1))
    → within from to at (stored_lines bs) ≡ between bs (from - at) (to - at)
here bs at from to some low high later =
    let n : ℕ = place_of bs in
    let rest : List ℕ = drop (n + 1) bs in
    let piece : List ℕ = take n bs in
    let line : ℕ × List ℕ = (at, strip_carriage_return piece) in
    let next : ℕ = at + length piece + 1 in
    let m : ℕ = first_start rest (to - at - (n + 1)) in
    let zero_is : from - at ≡ 0 = omega (arith, low) in
    let end : first_start bs (to - at) ≡ min (n + 1 + m) (length bs) = start_behind bs (to - at) (omega (arith, high)) in
    let left : within from to at (stored_lines bs) ≡ line.1 ∷ within from to next (stored_lines rest) =
    ap (λ ps. within from to at ps) (first_stored bs n refl some)
    ∙ ap (map (λ (l : ℕ × List ℕ). l.1)) (kept (starts_within from to) line (lines_from next (stored_lines rest)) (inside from to at line.1 low high)) in
    let right : between bs (from - at) (to - at) ≡ line.1 ∷ lines (take m rest) =
    (λ i. lines (slice_range bs (first_start bs (zero_is i)) (end i)))
    ∙ ((let e : min (n + 1 + m) (length bs) - 0 ≡ min (n + 1 + m) (length bs) = omega arith in ap (λ k. lines (take k bs)) e)
    ∙ (ap lines (take_min (n + 1 + m) bs) ∙ lines_cut bs m some)) in
    let same : m - 0 ≡ m = omega arith in
    left ∙ ap (λ more. line.1 ∷ more) (later ∙ ap (λ k. lines (take k rest)) same) ∙ sym right

-- the first line starts before the range: all are in the rest
ahead : (bs : List ℕ) (at from to : ℕ) → 0 < length bs → at < from → from ≤ to
    → within from to (at + length (take (place_of bs) bs) + 1) (stored_lines (drop (place_of bs + 1) bs))
    ≡ between (drop (place_of bs + 1) bs) (from - at - (place_of bs + 1)) (to - at - (place_of bs + 1))
    → within from to at (stored_lines bs) ≡ between bs (from - at) (to - at)
ahead bs at from to some early h later =
    let n : ℕ = place_of bs in
    let rest : List ℕ = drop (n + 1) bs in
    let piece : List ℕ = take n bs in
    let line : ℕ × List ℕ = (at, strip_carriage_return piece) in
    let next : ℕ = at + length piece + 1 in
    let a : ℕ = first_start rest (from - at - (n + 1)) in
    let b : ℕ = first_start rest (to - at - (n + 1)) in
    let begin : first_start bs (from - at) ≡ min (n + 1 + a) (length bs) = start_behind bs (from - at) (omega (arith, early)) in
    let end : first_start bs (to - at) ≡ min (n + 1 + b) (length bs) = start_behind bs (to - at) (omega (arith, early, h)) in
    let size : length rest ≡ length bs - (n + 1) = length-drop (n + 1) bs in
    let a_in = start_within rest (from - at - (n + 1)) in
    let b_in = start_within rest (to - at - (n + 1)) in
    let left : within from to at (stored_lines bs) ≡ within from to next (stored_lines rest) =
    ap (λ ps. within from to at ps) (first_stored bs n refl some)
    ∙ ap (map (λ (l : ℕ × List ℕ). l.1)) (left_out (starts_within from to) line (lines_from next (stored_lines rest)) (too_early from to at line.1 early)) in
    let right : slice_range bs (first_start bs (from - at)) (first_start bs (to - at)) ≡ slice_range rest a b =
    elim (cases_lt n (length bs)) [
      | inl ends ↦
          let from_is : first_start bs (from - at) ≡ n + 1 + a = omega (arith, begin, size, a_in, ends) in
          let to_is : first_start bs (to - at) ≡ n + 1 + b = omega (arith, end, size, b_in, ends) in
          let width : n + 1 + b - (n + 1 + a) ≡ b - a = omega arith in
          (λ i. slice_range bs (from_is i) (to_is i)) ∙ (λ i. take (width i) (sym (drop-drop a (n + 1) bs) i))
      | inr past ↦
          let from_is : first_start bs (from - at) ≡ length bs = omega (arith, begin, past) in
          let to_is : first_start bs (to - at) ≡ length bs = omega (arith, end, past) in
          let none : length bs - length bs ≡ 0 = omega arith in
          let no_width : b - a ≡ 0 = omega (arith, b_in, size, past) in
          (λ i. slice_range bs (from_is i) (to_is i)) ∙ (λ i. take (none i) (drop (length bs) bs)) ∙ sym (λ i. take (no_width i) (drop a rest))
    ] in
    left ∙ later ∙ sym (ap lines right)

between_none : (a b : ℕ) → between [] a b ≡ []
between_none a b =
    let a_in : first_start [] a ≡ 0 = let w = start_within [] a in omega (arith, w) in
    let b_in : first_start [] b ≡ 0 = let w = start_within [] b in omega (arith, w) in
    λ i. lines (slice_range [] (a_in i) (b_in i))

pub all_between : (fuel : ℕ) (bs : List ℕ) (at from to : ℕ) → length bs ≤ fuel → from ≤ to → within from to at (stored_lines bs) ≡ between bs (from - at) (to - at)
all_between fuel [] at from to few h = sym (between_none (from - at) (to - at))
all_between zero (b ∷ bs) at from to few h = absurd (omega (arith, few))
all_between (suc fuel) (b ∷ bs) at from to few h = elim (cases_lt at to) [
  | inr late ↦
      let x : from - at ≡ 0 = omega (arith, h, late) in
      let y : to - at ≡ 0 = omega (arith, late) in
      ap (map (λ (line : ℕ × List ℕ). line.1)) (none_late from to at (stored_lines whole) late) ∙ sym (λ i. between whole (x i) (y i))
  | inl early ↦
      let size = length-drop (place_of whole + 1) whole in
      let later = all_between fuel rest next from to (omega (arith, few, size)) h in
      elim (cases_lt at from) [
        | inl before ↦ ahead whole at from to (omega arith) before h (later ∙ λ i. between rest (same from i) (same to i))
        | inr behind ↦
            let x : from - next ≡ 0 = omega (arith, behind) in
            here whole at from to (omega arith) behind early (later ∙ λ i. between rest (x i) (same to i))
      ]
]
  where
    whole : List ℕ
    whole = b ∷ bs

    rest : List ℕ
    rest = drop (place_of whole + 1) whole

    next : ℕ
    next = at + length (take (place_of whole) whole) + 1

    same : (q : ℕ) → q - next ≡ q - at - (place_of whole + 1)
    same q = let w = place_within whole in let l = length-take (place_of whole) whole in omega (arith, w, l)

pub lines_between : (from to : ℕ) (bytes : List ℕ) → from ≤ to → lines_within from to bytes ≡ lines (slice_range bytes (first_start bytes from) (first_start bytes to))
lines_between from to bytes h =
    let a : from - 0 ≡ from = omega arith in
    let b : to - 0 ≡ to = omega arith in
    all_between (length bytes) bytes 0 from to (omega arith) h ∙ (λ i. between bytes (a i) (b i))
