-- A script without `%` and `$` stays as it is.
use Rattle.std.proofs.Common.{map, ◌≡◌, ◌∙◌, ℕ, ◌+◌, ◌==◌, ◌&&◌, ◌||◌, Bool, true, false, cond, nat_lt, List, [], ◌∷◌, ◌++◌, take, drop, codes, if◌then◌else◌, Option, Some, None, refl, sym, ap, ap₂, subst, arith, suc, zero, ◌≤◌}
use Rattle.std.specs.Prelude.{⊤}
use Rattle.std.specs.Option.{option_map}
use Rattle.pig_value.specs.Results.{◌>>=◌}
use Rattle.pig_params.specs.declared.directives.Word.TheVariants.{Declare, Default}
use Rattle.std.proofs.lemmas.Bool.{eqb-true, ltb-false, ne_eqb}
use Rattle.std.specs.Char.{to_ascii_lowercase}
use Rattle.std.specs.List.{list_any, slice_split, onto_first, prefix_len}
use Rattle.std.specs.Str.{bytes_eq, str_to_ascii_lowercase}
use Rattle.std.specs.declared.result.Result.TheVariants.{Ok}
use Rattle.std.proofs.lemmas.List.{append-nil}
use Rattle.pig_params.specs.Cuts.{is_byte}
use Rattle.pig_params.specs.Directives.{behind_blank, candidate_at, is_blank, line_at, line_of, ordinary, past_blanks, word_of}
use Rattle.pig_params.specs.Plain.{HasNo, PlainScriptsStay}
use Rattle.pig_params.specs.Substitution.{Named, behind, both, joined, joined_by_lf, line_put, put_line, put_parts, start_behind, value_at, with_above}
use Rattle.pig_params.proofs.Lines.{split_some}

-- ---- bytes that have no such byte

either_first : (a b : Bool) → (a || b) ≡ false → a ≡ false
either_first true b e = e
either_first false b e = refl

either_second : (a b : Bool) → (a || b) ≡ false → b ≡ false
either_second true b e = absurd (cc)
either_second false b e = e

no_drop : (c n : ℕ) (bs : List ℕ) → HasNo c bs → HasNo c (drop n bs)
no_drop c zero bs h = h
no_drop c (suc n) [] h = h
no_drop c (suc n) (b ∷ bs) h = no_drop c n bs (either_second (is_byte c b) (list_any (is_byte c) bs) h)

-- they are one part
uncut_without : (c : ℕ) (bs : List ℕ) → HasNo c bs → slice_split (is_byte c) bs ≡ bs ∷ []
uncut_without c [] h = refl
uncut_without c (b ∷ bs) h =
    ap (λ t. cond t ([] ∷ slice_split (is_byte c) bs) (onto_first b (slice_split (is_byte c) bs))) (either_first (is_byte c b) (list_any (is_byte c) bs) h)
    ∙ ap (onto_first b) (uncut_without c bs (either_second (is_byte c b) (list_any (is_byte c) bs) h))

-- ---- a line without `%` is no directive

lower_apart : (b : ℕ) → (b == 37) ≡ false → (to_ascii_lowercase b == 37) ≡ false
lower_apart b e = by (nat_lt b 65) (nat_lt b 91) refl refl
  where
    by : (s t : Bool) → nat_lt b 65 ≡ s → nat_lt b 91 ≡ t → (cond s b (cond t (b + 32) b) == 37) ≡ false
    by true t low high = e
    by false true low high = let up : 65 ≤ b = ltb-false b 65 low in ne_eqb (b + 32) 37 (λ same. absurd (omega (arith, up, same)))
    by false false low high = e

first_differs : (x : ℕ) (xs ys : List ℕ) → (x == 37) ≡ false → bytes_eq (x ∷ xs) (37 ∷ ys) ≡ false
first_differs x xs ys e = ap (λ t. t && bytes_eq xs ys) e

no_word : (bs : List ℕ) → HasNo 37 bs → word_of (take 8 bs) ≡ None
no_word [] h = refl
no_word (b ∷ bs) h =
    let apart : (to_ascii_lowercase b == 37) ≡ false = lower_apart b (either_first (b == 37) (list_any (is_byte 37) bs) h) in
    ap₂ (λ s t. if s then Some Declare else (if t then Some Default else None))
    (first_differs (to_ascii_lowercase b) (str_to_ascii_lowercase (take 7 bs)) (codes "declare") apart)
    (first_differs (to_ascii_lowercase b) (str_to_ascii_lowercase (take 7 bs)) (codes "default") apart)

no_candidate : (bs : List ℕ) → HasNo 37 bs → candidate_at bs ≡ None
no_candidate bs h = ap (λ word. word >>= (λ w. option_map (λ rest. (w, rest)) (behind_blank (drop 8 bs)))) (no_word bs h)

plain_line : (line : List ℕ) → HasNo 37 line → line_of line ≡ ordinary
plain_line line h = ap (line_at (prefix_len is_blank line)) (no_candidate (past_blanks line) (no_drop 37 (prefix_len is_blank line) line h))

-- ---- a line stays, and so do lines

line_stays : (v : List ℕ → Option (List ℕ)) (at : ℕ) (line : List ℕ) → HasNo 37 line → HasNo 36 line → put_line v at line (line_of line) ≡ Ok line
line_stays v at line p d =
    ap (put_line v at line) (plain_line line p) ∙ ap (λ parts. joined (put_parts v at parts)) (uncut_without 36 line d) ∙ ap Ok (append-nil line)

abbrev EachNo : ℕ → List (List ℕ) → Type 0
EachNo c [] = ⊤
EachNo c (line ∷ lines) = HasNo c line × EachNo c lines

-- lines with an LF between each two
abbrev with_lfs : List (List ℕ) → List ℕ
with_lfs [] = []
with_lfs (line ∷ []) = line
with_lfs (line ∷ next ∷ more) = line ++ 10 ∷ with_lfs (next ∷ more)

lines_stay : (given : List Named) (above lines : List (List ℕ)) → EachNo 37 lines → EachNo 36 lines → joined_by_lf (map (line_put given) (with_above above lines)) ≡ Ok (with_lfs lines)
lines_stay given above [] p d = refl
lines_stay given above (line ∷ []) p d = line_stays (value_at given above) (start_behind above) line p.0 d.0
lines_stay given above (line ∷ next ∷ more) p d =
    ap₂ (λ o rest. both o (behind (10 ∷ []) rest)) (line_stays (value_at given above) (start_behind above) line p.0 d.0)
    (lines_stay given (above ++ line ∷ []) (next ∷ more) p.1 d.1)

first_longer : (b : ℕ) (line : List ℕ) (lines : List (List ℕ)) → with_lfs ((b ∷ line) ∷ lines) ≡ b ∷ with_lfs (line ∷ lines)
first_longer b line [] = refl
first_longer b line (next ∷ more) = refl

each_longer : (c b : ℕ) (line : List ℕ) (lines : List (List ℕ)) → is_byte c b ≡ false → EachNo c (line ∷ lines) → EachNo c ((b ∷ line) ∷ lines)
each_longer c b line lines e each = (ap (λ t. t || list_any (is_byte c) line) e ∙ each.0, each.1)

split_joins : (bs : List ℕ) → with_lfs (slice_split (is_byte 10) bs) ≡ bs
split_joins [] = refl
split_joins (b ∷ bs) = by (is_byte 10 b) refl (split_some 10 bs) (split_joins bs)
  where
    by : (t : Bool) → is_byte 10 b ≡ t → (first : List ℕ) × (more : List (List ℕ)) × (slice_split (is_byte 10) bs ≡ first ∷ more) → with_lfs (slice_split (is_byte 10) bs) ≡ bs
        → with_lfs (cond t ([] ∷ slice_split (is_byte 10) bs) (onto_first b (slice_split (is_byte 10) bs))) ≡ b ∷ bs
    by true e some same = ap (λ parts. with_lfs ([] ∷ parts)) some.2 ∙ ap (λ parts. 10 ∷ with_lfs parts) (sym some.2) ∙ ap₂ (λ c rest. c ∷ rest) (sym (eqb-true b 10 e)) same
    by false e some same = ap (λ parts. with_lfs (onto_first b parts)) some.2 ∙ first_longer b some.0 some.1 ∙ ap (λ parts. b ∷ with_lfs parts) (sym some.2) ∙ ap (λ rest. b ∷ rest) same

split_each : (c : ℕ) (bs : List ℕ) → HasNo c bs → EachNo c (slice_split (is_byte 10) bs)
split_each c [] h = (refl, tt)
split_each c (b ∷ bs) h = by (is_byte 10 b) (split_some 10 bs) (split_each c bs (either_second (is_byte c b) (list_any (is_byte c) bs) h))
  where
    by : (t : Bool) → (first : List ℕ) × (more : List (List ℕ)) × (slice_split (is_byte 10) bs ≡ first ∷ more) → EachNo c (slice_split (is_byte 10) bs)
        → EachNo c (cond t ([] ∷ slice_split (is_byte 10) bs) (onto_first b (slice_split (is_byte 10) bs)))
    by true some each = (refl, each)
    by false some each = subst (λ parts. EachNo c (onto_first b parts)) (sym some.2)
        (each_longer c b some.0 some.1 (either_first (is_byte c b) (list_any (is_byte c) bs) h) (subst (EachNo c) some.2 each))

pub plain_scripts_stay : PlainScriptsStay
plain_scripts_stay given script p d =
    lines_stay given [] (slice_split (is_byte 10) script) (split_each 37 script p) (split_each 36 script d) ∙ ap Ok (split_joins script)
