-- How many lines stored bytes have: one for each LF, and one more where bytes stand behind the last one.
use Rattle.std.specs.Prelude.{◌≡◌, ◌<◌, ◌≤◌, ◌+◌, ◌-◌, ◌==◌, ℕ, suc, Bool, true, false, not, List, [], ◌∷◌, ◌++◌, length, drop, get_or, take, Some, slice_get, slice_index, refl}
use Rattle.std.proofs.Common.{ap, sym, ◌∙◌, arith, cond, get_or-drop}
use Rattle.std.specs.List.{count_by, onto_first, slice_split}
use Rattle.std.proofs.lemmas.List.Splits.{length-slice_split}
use Rattle.std.proofs.lemmas.List.Sums.{sum_by-append, sum_by-cons}
use Rattle.memchr.specs.Find.{is_byte, places, places_from}
use Rattle.pig_value.specs.Lines.{is_lf, stored_lines, without_last_empty}
use Rattle.pig_value.proofs.list_laws.Indexing.{drop-add}
use Rattle.pig_value.proofs.list_laws.Listing.{some_same}
use Rattle.pig_storage.proofs.FirstLine.{cut_leaves}
use Rattle.pig_collect.specs.Collecting.{joined}
use Rattle.pig_collect.specs.Tallies.{open_after}
use Rattle.pig_collect.proofs.Cutting.{first_and_rest}

-- whether the last of pieces has bytes; of one empty piece alone, as before
abbrev last_open : Bool → List (List ℕ) → Bool
last_open was [] = was
last_open was (piece ∷ next ∷ more) = last_open false (next ∷ more)
last_open was ([] ∷ []) = was
last_open was ((b ∷ piece) ∷ []) = true

abbrev cut : List ℕ → List (List ℕ)
cut = slice_split is_lf

behind_empty : (was : Bool) (ps : List (List ℕ)) → 0 < length ps → last_open false ps ≡ last_open was ([] ∷ ps)
behind_empty was [] some = absurd (omega (arith, some))
behind_empty was (p ∷ ps) some = refl

one_piece : (was : Bool) (b : ℕ) (p : List ℕ) → last_open true (p ∷ []) ≡ last_open was ((b ∷ p) ∷ [])
one_piece was b [] = refl
one_piece was b (c ∷ p) = refl

onto_open : (was : Bool) (b : ℕ) (ps : List (List ℕ)) → 0 < length ps → last_open true ps ≡ last_open was (onto_first b ps)
onto_open was b [] some = absurd (omega (arith, some))
onto_open was b (p ∷ []) some = one_piece was b p
onto_open was b (p ∷ q ∷ ps) some = refl

open_is : (was : Bool) (bs : List ℕ) → open_after was bs ≡ last_open was (cut bs)
open_is was [] = refl
open_is was (b ∷ bs) = by_test (is_lf b) (open_is false bs) (open_is true bs)
  where
    by_test : (c : Bool) → open_after false bs ≡ last_open false (cut bs) → open_after true bs ≡ last_open true (cut bs)
        → open_after (not c) bs ≡ last_open was (cond c ([] ∷ cut bs) (onto_first b (cut bs)))
    by_test true ended began = ended ∙ behind_empty was (cut bs) (cut_leaves bs)
    by_test false ended began = began ∙ onto_open was b (cut bs) (cut_leaves bs)

abbrev one_if : Bool → ℕ
one_if b = cond b 1 0

lines_of_pieces : (ps : List (List ℕ)) → 0 < length ps → length (without_last_empty ps) + 1 ≡ length ps + one_if (last_open false ps)
lines_of_pieces [] some = absurd (omega (arith, some))
lines_of_pieces (p ∷ q ∷ ps) some = let more = lines_of_pieces (q ∷ ps) (omega arith) in omega (arith, more)
lines_of_pieces ([] ∷ []) some = refl
lines_of_pieces ((b ∷ p) ∷ []) some = refl

pub counted : (bs : List ℕ) → length (stored_lines bs) ≡ count_by is_lf bs + one_if (open_after false bs)
counted bs =
    let size = length-slice_split is_lf bs in
    let pieces = lines_of_pieces (cut bs) (cut_leaves bs) in
    let was = ap one_if (open_is false bs) in
    omega (arith, size, pieces, was)

-- where all is seen, the count is that of the lines
pub counted_all : (bs : List ℕ) (count : ℕ) (was : Bool) → count ≡ count_by is_lf bs → was ≡ open_after false bs → count + one_if was ≡ length (stored_lines bs)
counted_all bs count was is ends =
    let all = counted bs in
    let last = ap one_if ends in
    omega (arith, all, is, last)

-- ---- parts joined

pub open_joined : (was : Bool) (xs ys : List ℕ) → open_after was (xs ++ ys) ≡ open_after (open_after was xs) ys
open_joined was [] ys = refl
open_joined was (x ∷ xs) ys = open_joined (not (is_lf x)) xs ys

pub ends_joined : (xs ys : List ℕ) → count_by is_lf (xs ++ ys) ≡ count_by is_lf xs + count_by is_lf ys
ends_joined xs ys = sum_by-append (λ b. cond (is_lf b) 1 0) xs ys

-- one part more
pub ends_on : (left : List (List ℕ)) (part : List ℕ) (count ends more all : ℕ) → 1 ≤ length left → part ≡ get_or left 0 part → ends ≡ count_by is_lf part → more ≡ count + ends
    → count + count_by is_lf (joined left) ≡ all → more + count_by is_lf (joined (take (length left - 1) (drop 1 left))) ≡ all
ends_on left part count ends more all some first is adds so_far =
    let rest = take (length left - 1) (drop 1 left) in
    let cut : count_by is_lf (joined left) ≡ count_by is_lf part + count_by is_lf (joined rest) =
    ap (λ l. count_by is_lf (joined l)) (first_and_rest left part some first) ∙ ends_joined part (joined rest) in
    omega (arith, cut, is, adds, so_far)

pub tail_on : (left : List (List ℕ)) (part : List ℕ) (was now all : Bool) → 1 ≤ length left → part ≡ get_or left 0 part → now ≡ open_after was part
    → open_after was (joined left) ≡ all → open_after now (joined (take (length left - 1) (drop 1 left))) ≡ all
tail_on left part was now all some first is so_far =
    let rest = take (length left - 1) (drop 1 left) in
    ap (λ b. open_after b (joined rest)) is ∙ sym (open_joined was part (joined rest))
    ∙ ap (λ l. open_after was (joined l)) (sym (first_and_rest left part some first)) ∙ so_far

-- no part is left
pub all_counted : (left parts : List (List ℕ)) (count all : ℕ) (was : Bool) → length left < 1 → count + count_by is_lf (joined left) ≡ count_by is_lf (joined parts)
    → open_after was (joined left) ≡ open_after false (joined parts) → all ≡ count + one_if was → all ≡ length (stored_lines (joined parts))
all_counted [] parts count all was none so_far tail is =
    let here : count ≡ count_by is_lf (joined parts) = omega (arith, so_far) in
    is ∙ counted_all (joined parts) count was here tail
all_counted (part ∷ left) parts count all was none so_far tail is = absurd (omega (arith, none))

-- the last byte alone tells
pub last_tells : (was : Bool) (bytes : List ℕ) (b : ℕ) → slice_get bytes (length bytes - 1) ≡ Some b → not (is_lf b) ≡ open_after was bytes
last_tells was [] b at = absurd (cc)
last_tells was (x ∷ []) b at = let same : x ≡ b = some_same x b at in ap (λ y. not (is_lf y)) (sym same)
last_tells was (x ∷ y ∷ bytes) b at =
    let e : length (x ∷ y ∷ bytes) - 1 ≡ suc (length (y ∷ bytes) - 1) = omega arith in
    last_tells (not (is_lf x)) (y ∷ bytes) b (sym (ap (slice_get (x ∷ y ∷ bytes)) e) ∙ at)

-- ---- the LFs that are found

found_from : (hay : List ℕ) (i : ℕ) (rest : List ℕ) → drop i hay ≡ rest → length (places_from (is_byte 10) hay i (length rest)) ≡ count_by is_lf rest
unfolding places_from
found_from hay i [] is = refl
found_from hay i (x ∷ rest) is =
    let zeroth : i + 0 ≡ i = omega arith in
    let here : slice_index hay i ≡ x = ap (λ j. get_or hay j 0) (sym zeroth) ∙ sym (get_or-drop i hay 0 0) ∙ ap (λ xs. get_or xs 0 0) is in
    let next : drop (i + 1) hay ≡ rest = sym (drop-add hay i 1) ∙ ap (drop 1) is in
    ap (λ y. length (cond (y == 10) (i ∷ places_from (is_byte 10) hay (i + 1) (length rest)) (places_from (is_byte 10) hay (i + 1) (length rest)))) here
    ∙ by_test (x == 10) (found_from hay (i + 1) rest next)
    ∙ sym (sum_by-cons (λ b. cond (is_lf b) 1 0) x rest)
  where
    by_test : (c : Bool) → length (places_from (is_byte 10) hay (i + 1) (length rest)) ≡ count_by is_lf rest
        → length (cond c (i ∷ places_from (is_byte 10) hay (i + 1) (length rest)) (places_from (is_byte 10) hay (i + 1) (length rest))) ≡ cond {A = ℕ} c 1 0 + count_by is_lf rest
    by_test true more = omega (arith, more)
    by_test false more = omega (arith, more)

pub found_all : (bs : List ℕ) → length (places (is_byte 10) bs) ≡ count_by is_lf bs
found_all bs =
    let all : length bs - 0 ≡ length bs = omega arith in
    ap (λ n. length (places_from (is_byte 10) bs 0 n)) all ∙ found_from bs 0 bs refl
