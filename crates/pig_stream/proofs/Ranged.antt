-- The lines of a range, one by one, as bytes are handed in.
use Rattle.std.specs.Prelude.{◌≡◌, ◌<◌, ◌≤◌, ◌+◌, ◌-◌, ℕ, zero, suc, Bool, true, false, not, List, [], ◌∷◌, ◌++◌, length, map, take, drop, get_or, refl}
use Rattle.std.proofs.Common.{ap, sym, ◌∙◌, arith, cond, inl, inr}
use Rattle.std.specs.List.{filter, slice_range}
use Rattle.std.specs.Str.Lines.{strip_carriage_return}
use Rattle.std.proofs.Math.Seq.{drop-append-add, drop-length, drop-nil, take-nil}
use Rattle.std.proofs.lemmas.Bool.{cases_lt}
use Rattle.std.proofs.lemmas.List.{drop-append-le, drop-drop, drop_all, length-append, length-drop, length-take, take-append-le}
use Rattle.std.proofs.lemmas.List.Sums.{position_or_len_is, prefix_len-le-length}
use Rattle.bstr.specs.Find.{NoneBefore, Nowhere, Passes, is_byte}
use Rattle.pig_value.specs.Lines.{is_lf, lines, lines_from, lines_within, starts_within, stored_lines}
use Rattle.pig_storage.specs.Splits.{first_start}
use Rattle.pig_storage.proofs.Between.{all_between, lines_between}
use Rattle.pig_storage.proofs.FirstLine.{first_stored}
use Rattle.pig_storage.proofs.Starts.{inside, kept, left_out, none_late, too_early}
use Rattle.pig_stream.specs.Ranges.{lf_in}

-- ---- where the first LF is, of bytes that are joined

-- what a search for it finds
fails : (b : Bool) → ¬ (b ≡ true) → b ≡ false
fails true h = absurd (h refl)
fails false h = refl

pub lf_found : (bs : List ℕ) (at : ℕ) → NoneBefore (Passes (is_byte 10) bs) 0 (length bs) at → Passes (is_byte 10) bs at → at ≡ lf_in bs
lf_found bs at before here =
    let high : at < length bs = before.high in
    sym (position_or_len_is is_lf bs at 0 (omega arith) (λ k h. fails (is_lf (get_or bs k 0)) (before.before k (omega arith) h)) (λ _. here))

pub lf_nowhere : (bs : List ℕ) → Nowhere (Passes (is_byte 10) bs) 0 (length bs) → length bs ≡ lf_in bs
lf_nowhere bs none =
    sym (position_or_len_is is_lf bs (length bs) 0 (omega arith) (λ k h. fails (is_lf (get_or bs k 0)) (none k (omega arith) h)) (λ h. absurd (omega arith)))

pub lf_within : (bs : List ℕ) → lf_in bs ≤ length bs
lf_within bs = prefix_len-le-length (λ b. not (is_lf b)) bs

pub lf_first : (xs ys : List ℕ) → lf_in xs < length xs → lf_in (xs ++ ys) ≡ lf_in xs
lf_first [] ys h = absurd (omega (arith, h))
lf_first (x ∷ xs) ys h = step (not (is_lf x)) (λ j. lf_first xs ys j) h
  where
    step : (t : Bool) → (lf_in xs < length xs → lf_in (xs ++ ys) ≡ lf_in xs) → cond t (1 + lf_in xs) 0 < suc (length xs) → cond t (1 + lf_in (xs ++ ys)) 0 ≡ cond t (1 + lf_in xs) 0
    step true on j = ap (λ n. 1 + n) (on (omega (arith, j)))
    step false on j = refl

pub lf_behind : (xs ys : List ℕ) → length xs ≤ lf_in xs → lf_in (xs ++ ys) ≡ length xs + lf_in ys
lf_behind [] ys h = omega arith
lf_behind (x ∷ xs) ys h = step (not (is_lf x)) (λ j. lf_behind xs ys j) h
  where
    step : (t : Bool) → (length xs ≤ lf_in xs → lf_in (xs ++ ys) ≡ length xs + lf_in ys) → suc (length xs) ≤ cond t (1 + lf_in xs) 0 → cond t (1 + lf_in (xs ++ ys)) 0 ≡ suc (length xs) + lf_in ys
    step true on j = let e = on (omega (arith, j)) in omega (arith, e)
    step false on j = absurd (omega (arith, j))

-- the same, from a place on before which there is none
pub lf_from : (xs : List ℕ) (k : ℕ) → k ≤ lf_in xs → k + lf_in (drop k xs) ≡ lf_in xs
lf_from xs zero h = omega arith
lf_from [] (suc k) h = absurd (omega (arith, h))
lf_from (x ∷ xs) (suc k) h = step (not (is_lf x)) (λ j. lf_from xs k j) h
  where
    step : (t : Bool) → (k ≤ lf_in xs → k + lf_in (drop k xs) ≡ lf_in xs) → suc k ≤ cond t (1 + lf_in xs) 0 → suc k + lf_in (drop k xs) ≡ cond t (1 + lf_in xs) 0
    step true on j = let e = on (omega (arith, j)) in omega (arith, e)
    step false on j = absurd (omega (arith, j))

-- none before a place stays so where more bytes come
pub lf_not_before : (xs ys : List ℕ) (k : ℕ) → k ≤ lf_in xs → k ≤ lf_in (xs ++ ys)
lf_not_before xs ys k h = elim (cases_lt (lf_in xs) (length xs)) [
  | inl within ↦ let e = lf_first xs ys within in omega (arith, e, h)
  | inr past ↦ let e = lf_behind xs ys past in let w = lf_within xs in omega (arith, e, h, w)
]

-- ---- lines behind a place

shifted : (n a b : ℕ) (bs : List ℕ) → a ≤ b → map (λ (l : ℕ × List ℕ). l.1) (filter (starts_within a b) (lines_from n (stored_lines bs))) ≡ lines_within (a - n) (b - n) bs
shifted n a b bs h = all_between (length bs) bs n a b (omega arith) h ∙ sym (lines_between (a - n) (b - n) bs (omega (arith, h)))

pub none_within : (a : ℕ) (bs : List ℕ) → lines_within a 0 bs ≡ []
none_within a bs = ap (map (λ (l : ℕ × List ℕ). l.1)) (none_late a 0 0 (stored_lines bs) (omega arith))

abbrev behind : List ℕ → List ℕ
behind bs = drop (lf_in bs + 1) bs

-- the first line, where it starts within the range
first_line : (limit : ℕ) (bs : List ℕ) → 0 < limit → 0 < length bs
    → lines_within 0 limit bs ≡ strip_carriage_return (take (lf_in bs) bs) ∷ lines_within 0 (limit - (lf_in bs + 1)) (behind bs)
first_line limit bs some here =
    let piece : List ℕ = take (lf_in bs) bs in
    let line : ℕ × List ℕ = (0, strip_carriage_return piece) in
    let next : ℕ = 0 + length piece + 1 in
    let size : next ≡ lf_in bs + 1 = piece_size bs in
    let zero_is : 0 - next ≡ 0 = omega arith in
    ap (λ ps. map (λ (l : ℕ × List ℕ). l.1) (filter (starts_within 0 limit) (lines_from 0 ps))) (first_stored bs (lf_in bs) refl here)
    ∙ ap (map (λ (l : ℕ × List ℕ). l.1)) (kept (starts_within 0 limit) line (lines_from next (stored_lines (behind bs))) (inside 0 limit 0 line.1 (omega arith) some))
    ∙ ap (λ ls. line.1 ∷ ls) (shifted next 0 limit (behind bs) (omega arith) ∙ (λ i. lines_within (zero_is i) (limit - size i) (behind bs)))
  where
    piece_size : (cs : List ℕ) → 0 + length (take (lf_in cs) cs) + 1 ≡ lf_in cs + 1
    piece_size cs = let w = lf_within cs in let l = length-take (lf_in cs) cs in omega (arith, w, l)

-- no start within the first line, where the range begins behind its first byte
skipped : (limit : ℕ) (bs : List ℕ) → 0 < limit → lines_within 1 limit bs ≡ lines_within 0 (limit - (lf_in bs + 1)) (behind bs)
skipped limit [] some = refl
skipped limit (b ∷ bs) some =
    let whole : List ℕ = b ∷ bs in
    let piece : List ℕ = take (lf_in whole) whole in
    let line : ℕ × List ℕ = (0, strip_carriage_return piece) in
    let next : ℕ = 0 + length piece + 1 in
    let size : next ≡ lf_in whole + 1 = (let w = lf_within whole in let l = length-take (lf_in whole) whole in omega (arith, w, l)) in
    let zero_is : 1 - next ≡ 0 = omega arith in
    ap (λ ps. map (λ (l : ℕ × List ℕ). l.1) (filter (starts_within 1 limit) (lines_from 0 ps))) (first_stored whole (lf_in whole) refl (omega arith))
    ∙ ap (map (λ (l : ℕ × List ℕ). l.1)) (left_out (starts_within 1 limit) line (lines_from next (stored_lines (behind whole))) (too_early 1 limit 0 line.1 (omega arith)))
    ∙ shifted next 1 limit (behind whole) (omega (arith, some))
    ∙ (λ i. lines_within (zero_is i) (limit - size i) (behind whole))

-- ---- bytes that are held, and others behind them

-- what stands behind the first LF
behind_first : (xs ys : List ℕ) → lf_in xs < length xs → behind (xs ++ ys) ≡ drop (lf_in xs + 1) xs ++ ys
behind_first xs ys within = ap (λ n. drop (n + 1) (xs ++ ys)) (lf_first xs ys within) ∙ drop-append-le (lf_in xs + 1) xs ys (omega (arith, within))

pub line_held : (limit : ℕ) (xs ys : List ℕ) → 0 < limit → lf_in xs < length xs
    → lines_within 0 limit (xs ++ ys) ≡ strip_carriage_return (take (lf_in xs) xs) ∷ lines_within 0 (limit - (lf_in xs + 1)) (drop (lf_in xs + 1) xs ++ ys)
line_held limit xs ys some within =
    let place = lf_first xs ys within in
    let size : 0 < length (xs ++ ys) = let l = length-append xs ys in omega (arith, l, within) in
    first_line limit (xs ++ ys) some size
    ∙ (λ i. strip_carriage_return (take (place i) (xs ++ ys)) ∷ lines_within 0 (limit - (place i + 1)) (behind_first xs ys within i))
    ∙ ap (λ l. strip_carriage_return l ∷ lines_within 0 (limit - (lf_in xs + 1)) (drop (lf_in xs + 1) xs ++ ys)) (take-append-le (lf_in xs) xs ys (omega (arith, within)))

-- the last line has no LF
pub line_last : (limit : ℕ) (xs : List ℕ) → 0 < limit → 0 < length xs → length xs ≤ lf_in xs
    → lines_within 0 limit xs ≡ strip_carriage_return (take (length xs) xs) ∷ lines_within 0 (limit - length xs) (drop (length xs) xs)
line_last limit xs some here past =
    let w = lf_within xs in
    let place : lf_in xs ≡ length xs = omega (arith, w, past) in
    let none : behind xs ≡ [] = drop_all (lf_in xs + 1) xs (omega (arith, past)) in
    let none_too : drop (length xs) xs ≡ [] = drop-length xs in
    first_line limit xs some here
    ∙ (λ i. strip_carriage_return (take (place i) xs) ∷ lines_within 0 (limit - (lf_in xs + 1)) (none i))
    ∙ ap (λ bs. strip_carriage_return (take (length xs) xs) ∷ lines_within 0 (limit - length xs) bs) (sym none_too)

-- a range that begins behind the first byte, where more bytes are handed in
pub skip_found : (limit : ℕ) (xs ys : List ℕ) → lf_in xs < length xs → lines_within 1 limit (xs ++ ys) ≡ lines_within 0 (limit - (lf_in xs + 1)) (drop (lf_in xs + 1) xs ++ ys)
skip_found zero xs ys within =
    let zero_is : 0 - (lf_in xs + 1) ≡ 0 = omega arith in
    none_within 1 (xs ++ ys) ∙ sym (ap (λ n. lines_within 0 n (drop (lf_in xs + 1) xs ++ ys)) zero_is ∙ none_within 0 (drop (lf_in xs + 1) xs ++ ys))
skip_found (suc n) xs ys within =
    let place = lf_first xs ys within in
    skipped (suc n) (xs ++ ys) (omega arith) ∙ (λ i. lines_within 0 (suc n - (place i + 1)) (behind_first xs ys within i))

pub skip_on : (limit : ℕ) (xs ys : List ℕ) → length xs ≤ lf_in xs → lines_within 1 limit (xs ++ ys) ≡ lines_within 1 (limit - length xs) ys
skip_on limit xs ys past = elim (cases_lt (length xs) limit) [
  | inl more ↦
      let w = lf_behind xs ys past in
      let left : ℕ = limit - length xs in
      let place : limit - (lf_in (xs ++ ys) + 1) ≡ left - (lf_in ys + 1) = omega (arith, w) in
      let sum : lf_in (xs ++ ys) + 1 ≡ length xs + (lf_in ys + 1) = omega (arith, w) in
      let rest : behind (xs ++ ys) ≡ behind ys = ap (λ n. drop n (xs ++ ys)) sum ∙ drop-append-add xs ys (lf_in ys + 1) in
      skipped limit (xs ++ ys) (omega (arith, more)) ∙ (λ i. lines_within 0 (place i) (rest i)) ∙ sym (skipped left ys (omega (arith, more)))
  | inr past_limit ↦
      let none : limit - length xs ≡ 0 = omega (arith, past_limit) in
      ahead limit (lf_behind xs ys past) past_limit ∙ sym (ap (λ n. lines_within 1 n ys) none ∙ none_within 1 ys)
]
  where
    ahead : (n : ℕ) → lf_in (xs ++ ys) ≡ length xs + lf_in ys → n ≤ length xs → lines_within 1 n (xs ++ ys) ≡ []
    ahead zero place h = none_within 1 (xs ++ ys)
    ahead (suc n) place h =
        let none : suc n - (lf_in (xs ++ ys) + 1) ≡ 0 = omega (arith, place, h) in
        skipped (suc n) (xs ++ ys) (omega arith) ∙ ap (λ m. lines_within 0 m (behind (xs ++ ys))) none ∙ none_within 0 (behind (xs ++ ys))

-- ---- a range of a piece, of the bytes from the one before it on

pub from_the_byte_before : (from to : ℕ) (bs : List ℕ) → 0 < from → from ≤ to → lines_within 1 (to - (from - 1)) (drop (from - 1) bs) ≡ lines_within from to bs
from_the_byte_before zero to bs some h = absurd (omega (arith, some))
from_the_byte_before (suc q) zero bs some h = absurd (omega (arith, h))
from_the_byte_before (suc q) (suc p) bs some h =
    let r : List ℕ = drop q bs in
    let same : suc q - 1 ≡ q = omega arith in
    let size : length r ≡ length bs - q = length-drop q bs in
    let width : suc p - q ≡ suc (p - q) = omega (arith, h) in
    (λ i. lines_within 1 (suc p - same i) (drop (same i) bs))
    ∙ lines_between 1 (suc p - q) r (omega (arith, h))
    ∙ ap (λ n. lines (slice_range r (first_start r 1) (first_start r n))) width
    ∙ elim (cases_lt (length bs) q) [
      | inl past ↦
          let none : r ≡ [] = drop_all q bs (omega (arith, past)) in
          let a : first_start bs (suc q) ≡ length bs = omega (arith, past) in
          let b : first_start bs (suc p) ≡ length bs = omega (arith, past, h) in
          let zero_is : length bs - length bs ≡ 0 = omega arith in
          ap (λ l. lines (slice_range l (first_start l 1) (first_start l (suc (p - q))))) none
          ∙ nothing (first_start [] 1) (first_start [] (suc (p - q)))
          ∙ sym ((λ i. lines (slice_range bs (a i) (b i))) ∙ ap (λ n. lines (take n (drop (length bs) bs))) zero_is)
      | inr within ↦
          let place : lf_in (drop 0 r) ≡ lf_in (drop q bs) = refl in
          let there : drop (p - q) r ≡ drop p bs = drop-drop (p - q) q bs ∙ (let e : q + (p - q) ≡ p = omega (arith, h) in ap (λ k. drop k bs) e) in
          let place_there : lf_in (drop (p - q) r) ≡ lf_in (drop p bs) = ap lf_in there in
          let a : first_start bs (suc q) ≡ q + first_start r 1 = omega (arith, size, place, within) in
          let b : first_start bs (suc p) ≡ q + first_start r (suc (p - q)) = omega (arith, size, place_there, within, h) in
          let w : q + first_start r (suc (p - q)) - (q + first_start r 1) ≡ first_start r (suc (p - q)) - first_start r 1 = omega arith in
          sym ((λ i. lines (slice_range bs (a i) (b i))) ∙ (λ i. lines (take (w i) (sym (drop-drop (first_start r 1) q bs) i))))
    ]
    ∙ sym (lines_between (suc q) (suc p) bs h)
  where
    nothing : (a b : ℕ) → lines (slice_range [] a b) ≡ []
    nothing a b = ap lines (ap (take (b - a)) (drop-nil a) ∙ take-nil (b - a))
