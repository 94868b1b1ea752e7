-- Rows that are joined and taken beside their codes, and where the code of a row stands.
use Rattle.std.proofs.Common.{◌≡◌, ◌+◌, ℕ, zero, suc, List, [], ◌∷◌, ◌++◌, length, take, drop, refl, sym, ◌∙◌, ap, arith}
use Rattle.std.specs.Prelude.{Some, slice_get}
use Rattle.std.proofs.Math.Seq.{take-append_seam, drop-append_seam, take-suc}
use Rattle.std.proofs.lemmas.List.{append-nil, length-append, take-append-drop}
use Rattle.std.proofs.lemmas.List.Concat.{flat_map-append}
use Rattle.std.proofs.lemmas.Option.{slice_get_within, get_or_from_slice_get}
use Rattle.pig_value.specs.Trees.{Tree}
use Rattle.pig_value.proofs.list_laws.Listing.{some_same}
use Rattle.pig_keycode.specs.Reading.{row_code}
use Rattle.pig_packed.specs.RowCodes.{codes_of, ends_from}

-- ---- rows that are joined

pub codes_of-append : (xs ys : List (List Tree)) → codes_of (xs ++ ys) ≡ codes_of xs ++ codes_of ys
codes_of-append xs ys = flat_map-append row_code xs ys

pub ends_from-append : (begin : ℕ) (xs ys : List (List Tree)) → ends_from begin (xs ++ ys) ≡ ends_from begin xs ++ ends_from (begin + length (codes_of xs)) ys
ends_from-append begin [] ys = let e : begin ≡ begin + 0 = omega arith in ap (λ n. ends_from n ys) e
ends_from-append begin (x ∷ xs) ys =
    let e : begin + length (row_code x) + length (codes_of xs) ≡ begin + length (row_code x ++ codes_of xs) = omega (arith, length-append (row_code x) (codes_of xs)) in
    let rest = ends_from-append (begin + length (row_code x)) xs ys ∙ ap (λ n. ends_from (begin + length (row_code x)) xs ++ ends_from n ys) e in
    ap (λ l. (begin + length (row_code x)) ∷ l) rest

pub length-ends_from : (begin : ℕ) (rows : List (List Tree)) → length (ends_from begin rows) ≡ length rows
length-ends_from begin [] = refl
length-ends_from begin (row ∷ rows) = ap suc (length-ends_from (begin + length (row_code row)) rows)

-- ---- rows that are taken, left out, mapped

pub codes_of-split : (i : ℕ) (rows : List (List Tree)) → codes_of rows ≡ codes_of (take i rows) ++ codes_of (drop i rows)
codes_of-split i rows = ap codes_of (sym (take-append-drop i rows)) ∙ codes_of-append (take i rows) (drop i rows)

pub codes_of-take : (i : ℕ) (rows : List (List Tree)) → take (length (codes_of (take i rows))) (codes_of rows) ≡ codes_of (take i rows)
codes_of-take i rows = ap (take (length (codes_of (take i rows)))) (codes_of-split i rows) ∙ take-append_seam (codes_of (take i rows)) (codes_of (drop i rows))

-- ---- where the code of a row stands

-- what stands before a place are the codes of the rows before it
pub place_is : (begin : ℕ) (rows : List (List Tree)) (i e : ℕ) → slice_get (begin ∷ ends_from begin rows) i ≡ Some e → e ≡ begin + length (codes_of (take i rows))
place_is begin rows zero e h = let same = some_same begin e h in omega (arith, same)
place_is begin [] (suc i) e h = absurd (cc)
place_is begin (row ∷ rows) (suc i) e h =
    let rest = place_is (begin + length (row_code row)) rows i e h in
    let size = length-append (row_code row) (codes_of (take i rows)) in
    omega (arith, rest, size)

-- the codes of rows and of one more
one_more : (rows : List (List Tree)) (i : ℕ) (row : List Tree) → slice_get rows i ≡ Some row → codes_of (take (suc i) rows) ≡ codes_of (take i rows) ++ row_code row
one_more rows i row h =
    let longer : take (suc i) rows ≡ take i rows ++ row ∷ [] = take-suc rows i row (slice_get_within rows i row h) ∙ ap (λ y. take i rows ++ y ∷ []) (get_or_from_slice_get rows i row row h) in
    ap codes_of longer ∙ (codes_of-append (take i rows) (row ∷ []) ∙ ap (λ l. codes_of (take i rows) ++ l) (append-nil (row_code row)))

-- the code of a row stands between the place where the code before it ends and its own end
pub code_stands : (bytes : List ℕ) (rows : List (List Tree)) (i begin end : ℕ) (row : List Tree) → codes_of rows ≡ bytes → slice_get rows i ≡ Some row
    → slice_get (0 ∷ ends_from 0 rows) i ≡ Some begin → slice_get (ends_from 0 rows) i ≡ Some end → drop begin (take end bytes) ≡ row_code row
code_stands bytes rows i begin end row held here begins ends =
    let first : begin ≡ length (codes_of (take i rows)) = let is = place_is 0 rows i begin begins in omega (arith, is) in
    let last : end ≡ length (codes_of (take (suc i) rows)) = let is = place_is 0 rows (suc i) end ends in omega (arith, is) in
    let front : take end bytes ≡ codes_of (take i rows) ++ row_code row = (λ j. take (last j) (sym held j)) ∙ (codes_of-take (suc i) rows ∙ one_more rows i row here) in
    (λ j. drop (first j) (front j)) ∙ drop-append_seam (codes_of (take i rows)) (row_code row)
