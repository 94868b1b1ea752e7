-- The lines that start in a range.
use Rattle.std.proofs.Common.{◌≡◌, ◌+◌, ◌<◌, ◌≤◌, ◌&&◌, ℕ, zero, suc, Bool, true, false, inl, inr, leb, ltb, List, [], ◌∷◌, ◌++◌, length, map, take, drop, refl, sym, ◌∙◌, ap, subst, arith}
use Rattle.std.specs.List.{filter, position_or_len}
use Rattle.std.specs.Str.Lines.{strip_carriage_return}
use Rattle.std.proofs.lemmas.Bool.{cases_lt}
use Rattle.std.proofs.lemmas.Bool.Decides.{leb_tells}
use Rattle.std.proofs.lemmas.List.{drop_all, length-drop, length-take-le, map-append}
use Rattle.pig_value.specs.Lines.{is_lf, lines, lines_from, lines_within, started_lines, starts_within, stored_lines}
use Rattle.pig_storage.proofs.FirstLine.{first_stored}

leb_yes : (a b : ℕ) → a ≤ b → leb a b ≡ true
leb_yes a b h = elim (leb_tells a b) [ inl low ↦ low.0 | inr high ↦ absurd (omega (arith, high.1)) ]

leb_no : (a b : ℕ) → b < a → leb a b ≡ false
leb_no a b h = elim (leb_tells a b) [ inl low ↦ absurd (omega (arith, low.1)) | inr high ↦ high.0 ]

second_false : (x y : Bool) → y ≡ false → (x && y) ≡ false
second_false true y e = e
second_false false y e = refl

-- a start that is too early or too late, and one within
pub too_early : (from to at : ℕ) (l : List ℕ) → at < from → starts_within from to (at, l) ≡ false
too_early from to at l early = ap (λ t. t && ltb at to) (leb_no from at early)

too_late : (from to at : ℕ) (l : List ℕ) → to ≤ at → starts_within from to (at, l) ≡ false
too_late from to at l late = second_false (leb from at) (ltb at to) (leb_no (suc at) to (omega arith))

pub inside : (from to at : ℕ) (l : List ℕ) → from ≤ at → at < to → starts_within from to (at, l) ≡ true
inside from to at l low high =
    let a : leb from at ≡ true = leb_yes from at low in
    let b : ltb at to ≡ true = leb_yes (suc at) to (omega arith) in
    λ i. a i && b i

pub kept : {X : Type 0} (test : X → Bool) (x : X) (xs : List X) → test x ≡ true → filter test (x ∷ xs) ≡ x ∷ filter test xs
kept test x xs e = rw e refl

pub left_out : {X : Type 0} (test : X → Bool) (x : X) (xs : List X) → test x ≡ false → filter test (x ∷ xs) ≡ filter test xs
left_out test x xs e = rw e refl

-- no line starts in a range that ends before the first
pub none_late : (from to at : ℕ) (ps : List (List ℕ)) → to ≤ at → filter (starts_within from to) (lines_from at ps) ≡ []
none_late from to at [] late = refl
none_late from to at (p ∷ ps) late =
    let next : ℕ = at + length p + 1 in
    left_out (starts_within from to) (at, strip_carriage_return p) (lines_from next ps) (too_late from to at (strip_carriage_return p) late) ∙ none_late from to next ps (omega arith)

-- where a range begins before the first line, the place does not matter
same_ahead : (a b to at : ℕ) (ps : List (List ℕ)) → a ≤ at → b ≤ at → filter (starts_within a to) (lines_from at ps) ≡ filter (starts_within b to) (lines_from at ps)
same_ahead a b to at [] low high = refl
same_ahead a b to at (p ∷ ps) low high = elim (cases_lt at to) [
  | inl early ↦
      let next : ℕ = at + length p + 1 in
      let l : List ℕ = strip_carriage_return p in
      kept (starts_within a to) (at, l) (lines_from next ps) (inside a to at l low early)
      ∙ (ap (λ more. (at, l) ∷ more) (same_ahead a b to next ps (omega arith) (omega arith)) ∙ sym (kept (starts_within b to) (at, l) (lines_from next ps) (inside b to at l high early)))
  | inr late ↦ none_late a to at (p ∷ ps) late ∙ sym (none_late b to at (p ∷ ps) late)
]

parts : (a b c at : ℕ) (ps : List (List ℕ)) → a ≤ b → b ≤ c → filter (starts_within a b) (lines_from at ps) ++ filter (starts_within b c) (lines_from at ps) ≡ filter (starts_within a c) (lines_from at ps)
parts a b c at [] low high = refl
parts a b c at (p ∷ ps) low high = elim (cases_lt at b) [
  | inl early ↦
      let second : filter (starts_within b c) ((at, l) ∷ rest) ≡ filter (starts_within b c) rest = left_out (starts_within b c) (at, l) rest (too_early b c at l early) in
      elim (cases_lt at a) [
        | inl before ↦
            ap (λ xs. xs ++ filter (starts_within b c) ((at, l) ∷ rest)) (left_out (starts_within a b) (at, l) rest (too_early a b at l before))
            ∙ (ap (λ xs. filter (starts_within a b) rest ++ xs) second ∙ (parts a b c next ps low high ∙ sym (left_out (starts_within a c) (at, l) rest (too_early a c at l before))))
        | inr behind ↦
            ap (λ xs. xs ++ filter (starts_within b c) ((at, l) ∷ rest)) (kept (starts_within a b) (at, l) rest (inside a b at l behind early))
            ∙ (ap (λ xs. (at, l) ∷ (filter (starts_within a b) rest ++ xs)) second ∙ (ap (λ xs. (at, l) ∷ xs) (parts a b c next ps low high) ∙ sym (kept (starts_within a c) (at, l) rest (inside a c at l behind (omega arith)))))
      ]
  | inr late ↦
      ap (λ xs. xs ++ filter (starts_within b c) ((at, l) ∷ rest)) (none_late a b at (p ∷ ps) late) ∙ same_ahead b a c at (p ∷ ps) late (omega arith)
]
  where
    next : ℕ
    next = at + length p + 1

    l : List ℕ
    l = strip_carriage_return p

    rest : List (ℕ × List ℕ)
    rest = lines_from next ps

pub parts_join : (a b c : ℕ) (bytes : List ℕ) → a ≤ b → b ≤ c → lines_within a b bytes ++ lines_within b c bytes ≡ lines_within a c bytes
parts_join a b c bytes low high =
    let line : ℕ × List ℕ → List ℕ = λ p. p.1 in
    let first : List (ℕ × List ℕ) = filter (starts_within a b) (started_lines bytes) in
    let second : List (ℕ × List ℕ) = filter (starts_within b c) (started_lines bytes) in
    sym (map-append line first second) ∙ ap (map line) (parts a b c 0 (stored_lines bytes) low high)

-- every line starts before the end of the bytes
abbrev AllWithin : ℕ → ℕ → List (List ℕ) → Type 0
AllWithin to at ps = filter (starts_within 0 to) (lines_from at ps) ≡ lines_from at ps

all_within : (fuel : ℕ) (bs : List ℕ) (at to : ℕ) → length bs ≤ fuel → at + length bs ≤ to → AllWithin to at (stored_lines bs)
all_within fuel [] at to few fits = refl
all_within zero (b ∷ bs) at to few fits = absurd (omega arith)
all_within (suc fuel) (b ∷ bs) at to few fits =
    let whole : List ℕ = b ∷ bs in
    let place : ℕ = position_or_len is_lf whole in
    let piece : List ℕ = take place whole in
    let rest : List ℕ = drop (place + 1) whole in
    let next : ℕ = at + length piece + 1 in
    let later : AllWithin to next (stored_lines rest) = elim (cases_lt place (length whole)) [
      | inl ends ↦ all_within fuel rest next to (omega (arith, length-drop (place + 1) whole)) (omega (arith, length-drop (place + 1) whole, length-take-le place whole))
      | inr past ↦ subst (λ r. AllWithin to next (stored_lines r)) (sym (drop_all (place + 1) whole (omega arith))) refl
    ] in
    let line : ℕ × List ℕ = (at, strip_carriage_return piece) in
    let here : AllWithin to at (piece ∷ stored_lines rest) = kept (starts_within 0 to) line (lines_from next (stored_lines rest)) (inside 0 to at line.1 (omega arith) (omega arith)) ∙ ap (λ more. line ∷ more) later in
    subst (AllWithin to at) (sym (first_stored whole place refl (omega arith))) here

only_lines : (at : ℕ) (ps : List (List ℕ)) → map (λ (line : ℕ × List ℕ). line.1) (lines_from at ps) ≡ map strip_carriage_return ps
only_lines at [] = refl
only_lines at (p ∷ ps) = ap (λ more. strip_carriage_return p ∷ more) (only_lines (at + length p + 1) ps)

pub whole_is : (to : ℕ) (bytes : List ℕ) → length bytes ≤ to → lines_within 0 to bytes ≡ lines bytes
whole_is to bytes fits =
    ap (map (λ (line : ℕ × List ℕ). line.1)) (all_within (length bytes) bytes 0 to (omega arith) (omega arith)) ∙ only_lines 0 (stored_lines bytes)
