-- What a window's bytes become as more are handed in and lines are given out.
use Rattle.std.specs.Prelude.{◌≡◌, ◌<◌, ◌≤◌, ◌+◌, ◌-◌, ℕ, Bool, true, false, List, [], ◌∷◌, ◌++◌, length, take, drop, refl}
use Rattle.std.proofs.Common.{ap, sym, subst, ◌∙◌, arith, cond, inl, inr, append-nil, append_assoc, true≢false}
use Rattle.std.proofs.lemmas.List.{drop-append-le, drop-drop, length-append, length-drop, take_all}
use Rattle.std.specs.Str.Lines.{strip_carriage_return}
use Rattle.pig_value.specs.declared.inputs.Column.{Column}
use Rattle.pig_value.specs.FieldRows.{row_of}
use Rattle.pig_value.specs.Lines.{lines_within}
use Rattle.pig_value.specs.Trees.{Tree}
use Rattle.pig_storage.specs.NextLine.{line_end}
use Rattle.pig_stream.specs.declared.window.Found.{Found}
use Rattle.pig_stream.specs.Ranges.{IsDry, Reading, bytes_left, lf_in, lines_coming, rows_of_lines}
use Rattle.pig_stream.specs.Seeking.{IsFound}
use Rattle.pig_stream.proofs.Ranged.{lf_from, lf_not_before, line_held, line_last, none_within, skip_found, skip_on}

abbrev from_of : Bool → ℕ
from_of skips = cond skips 1 0

-- ---- more bytes

-- what stands behind a place
pub rest_is : (xs seen : List ℕ) (n : ℕ) → seen ≡ xs → take (length seen - n) (drop n seen) ≡ drop n xs
rest_is xs seen n is = take_all (length seen - n) (drop n seen) (let e = length-drop n seen in omega arith) ∙ ap (drop n) is

pub skipped_to : (r : Reading) (block later : List ℕ) (at : ℕ) → r.ended ≡ false → r.skips ≡ true → r.held ≡ [] → at ≡ lf_in block → at < length block
    → lines_coming (record { held = drop (at + 1) block; limit = r.limit - (at + 1); skips = false; ended = r.ended }) later ≡ lines_coming r (block ++ later)
skipped_to r block later at going skips none is within =
    (λ i. lines_within 0 (r.limit - (at + 1)) (drop (at + 1) block ++ cond (going i) [] later))
    ∙ (λ i. lines_within 0 (r.limit - (is i + 1)) (drop (is i + 1) block ++ later))
    ∙ sym (skip_found r.limit block later (subst (λ n. n < length block) is within))
    ∙ sym (λ i. lines_within (from_of (skips i)) r.limit (none i ++ cond (going i) [] (block ++ later)))

pub skipped_all : (r : Reading) (block later : List ℕ) → r.ended ≡ false → r.skips ≡ true → r.held ≡ [] → length block ≡ lf_in block
    → lines_coming (record { held = r.held; limit = r.limit - length block; skips = r.skips; ended = r.ended }) later ≡ lines_coming r (block ++ later)
skipped_all r block later going skips none is =
    (λ i. lines_within (from_of (skips i)) (r.limit - length block) (none i ++ cond (going i) [] later))
    ∙ sym (skip_on r.limit block later (omega (arith, is)))
    ∙ sym (λ i. lines_within (from_of (skips i)) r.limit (none i ++ cond (going i) [] (block ++ later)))

pub skip_then : (r mid new : Reading) (block part later : List ℕ) (at : ℕ) → r.ended ≡ false → r.skips ≡ true → r.held ≡ [] → at ≡ lf_in block → at < length block
    → part ≡ take (length block - (at + 1)) (drop (at + 1) block)
    → mid ≡ record { held = []; limit = r.limit - (at + 1); skips = false; ended = r.ended }
    → new ≡ record { held = mid.held ++ part; limit = mid.limit; skips = false; ended = mid.ended }
    → lines_coming new later ≡ lines_coming r (block ++ later)
skip_then r mid new block part later at going skips none is within part_is first then =
    let rest : part ≡ drop (at + 1) block = part_is ∙ rest_is block block (at + 1) refl in
    ap (λ x. lines_coming x later) then
    ∙ (λ i. lines_coming (record { held = (first i).held ++ rest i; limit = (first i).limit; skips = false; ended = (first i).ended }) later)
    ∙ skipped_to r block later at going skips none is within

-- what is known of the place before which no LF stands
pub holds_still : (bytes block new : List ℕ) (begin clean : ℕ) (skips : Bool) → new ≡ bytes ++ block → skips ≡ false → begin ≤ clean → clean ≤ length bytes → clean ≤ line_end bytes begin
    → (begin ≤ clean) × (clean ≤ length new) × (clean ≤ line_end new begin) × (skips ≡ true → drop begin new ≡ [])
holds_still bytes block new begin clean skips is told before within first =
    let rest : drop begin (bytes ++ block) ≡ drop begin bytes ++ block = drop-append-le begin bytes block (omega (arith, before, within)) in
    let low : clean - begin ≤ lf_in (drop begin bytes) = omega (arith, first) in
    let none : clean - begin ≤ lf_in (drop begin bytes ++ block) = lf_not_before (drop begin bytes) block (clean - begin) low in
    let same : lf_in (drop begin new) ≡ lf_in (drop begin bytes ++ block) = ap lf_in (ap (drop begin) is ∙ rest) in
    let size : length new ≡ length bytes + length block = ap length is ∙ length-append bytes block in
    (before, omega (arith, size, within), omega (arith, none, same, before), λ yes. absurd (true≢false (sym yes ∙ told)))

pub sought : (bytes rest : List ℕ) (begin clean n place : ℕ) → rest ≡ drop clean bytes → begin ≤ clean → clean ≤ line_end bytes begin → n ≡ lf_in rest → place ≡ clean + n → place ≡ begin + lf_in (drop begin bytes)
sought bytes rest begin clean n place is before first found sum =
    let low : clean - begin ≤ lf_in (drop begin bytes) = omega (arith, first) in
    let there : drop (clean - begin) (drop begin bytes) ≡ rest = drop-drop (clean - begin) begin bytes ∙ (let e : begin + (clean - begin) ≡ clean = omega (arith, before) in ap (λ k. drop k bytes) e) ∙ sym is in
    let same : lf_in (drop (clean - begin) (drop begin bytes)) ≡ lf_in rest = ap lf_in there in
    let all = lf_from (drop begin bytes) (clean - begin) low in
    omega (arith, all, same, found, sum, before)

-- ---- lines

abbrev pub gone_on : ℕ → Reading → Reading
gone_on count r = record { held = drop count r.held; limit = r.limit - count; skips = false; ended = r.ended }

pub line_found : (r : Reading) (f : Found) → IsFound r f → (later : List ℕ) → lines_coming r later ≡ strip_carriage_return (take f.end r.held) ∷ lines_coming (gone_on f.next r) later
line_found r f h later = elim h.ends [
  | inl within ↦
      let place : f.end ≡ lf_in r.held = h.end in
      let next : lf_in r.held + 1 ≡ f.next = ap (λ n. n + 1) (sym place) ∙ sym within.1 in
      (λ i. lines_within (from_of (h.told i)) r.limit (bytes_left r later))
      ∙ line_held r.limit r.held (cond r.ended [] later) h.starts (subst (λ n. n < length r.held) place within.0)
      ∙ (λ i. strip_carriage_return (take (sym place i) r.held) ∷ lines_within 0 (r.limit - next i) (drop (next i) r.held ++ cond r.ended [] later))
  | inr last ↦
      let size : length r.held ≡ f.end = sym last.0 in
      let next : length r.held ≡ f.next = size ∙ sym last.1 in
      let past : length r.held ≤ lf_in r.held = let e = h.end in omega (arith, e, size) in
      (λ i. lines_within (from_of (h.told i)) r.limit (r.held ++ cond (last.2 i) [] later))
      ∙ ap (lines_within 0 r.limit) (append-nil r.held)
      ∙ line_last r.limit r.held h.starts h.here past
      ∙ (λ i. strip_carriage_return (take (size i) r.held) ∷ lines_within 0 (r.limit - next i) (drop (next i) r.held))
      ∙ ap (λ l. strip_carriage_return (take f.end r.held) ∷ lines_within 0 (r.limit - f.next) l) (sym (append-nil (drop f.next r.held)))
      ∙ (λ i. strip_carriage_return (take f.end r.held) ∷ lines_within 0 (r.limit - f.next) (drop f.next r.held ++ cond (sym last.2 i) [] later))
]

-- ---- no line

pub past_limit : (r : Reading) → r.limit ≡ 0 → (later : List ℕ) → lines_coming r later ≡ []
past_limit r is later = ap (λ n. lines_within (from_of r.skips) n (bytes_left r later)) is ∙ none_within (from_of r.skips) (bytes_left r later)

pub none_of : {X : Type 0} (xs : List X) → length xs ≡ 0 → xs ≡ []
none_of [] is = refl
none_of (x ∷ xs) is = absurd (omega (arith, is))

pub nothing_held : (r : Reading) → r.held ≡ [] → IsDry r
nothing_held r none ended later = λ i. lines_within (from_of r.skips) r.limit (none i ++ cond (ended i) [] later)

pub going_on : (r : Reading) → r.ended ≡ false → IsDry r
going_on r going ended later = absurd (true≢false (sym ended ∙ going))

-- no bytes come any more
pub at_the_end : (r : Reading) (later : List ℕ) → lines_coming (record { held = r.held; limit = r.limit; skips = r.skips; ended = true }) later ≡ lines_coming r []
at_the_end r later = by r.ended
  where
    by : (b : Bool) → lines_within (from_of r.skips) r.limit (r.held ++ []) ≡ lines_within (from_of r.skips) r.limit (r.held ++ cond b [] [])
    by true = refl
    by false = refl

-- ---- rows of lines

module _ (columns : List Column) (delim : ℕ) where
  abbrev rows_in : List (List ℕ) → List (List Tree)
  rows_in = rows_of_lines columns delim

  pub line_added : (r : Reading) (f : Found) (old new : List (List Tree)) (line : List ℕ) → IsFound r f → line ≡ strip_carriage_return (take f.end r.held)
      → new ≡ old ++ row_of columns delim line ∷ [] → (later : List ℕ) → old ++ rows_in (lines_coming r later) ≡ new ++ rows_in (lines_coming (gone_on f.next r) later)
  line_added r f old new line h is more later =
      let rest : List (List Tree) = rows_in (lines_coming (gone_on f.next r) later) in
      ap (λ ls. old ++ rows_in ls) (line_found r f h later)
      ∙ ap (λ l. old ++ (row_of columns delim l ∷ rest)) (sym is)
      ∙ sym (append_assoc old (row_of columns delim line ∷ []) rest)
      ∙ ap (λ l. l ++ rest) (sym more)
