-- The lines of one visit more, and that all are of bytes.
use Rattle.std.proofs.Common.{◌≡◌, ◌<◌, ◌+◌, ◌*◌, ◌%◌, ◌^◌, ◌++◌, ℕ, zero, suc, List, [], ◌∷◌, map, decimal, codes, sym, ◌∙◌, ap, arith}
use Rattle.std.specs.List.{flat_map, range_with_len}
use Rattle.std.proofs.lemmas.Fmt.{decimal_by_steps}
use Rattle.std.proofs.lemmas.List.{append-nil}
use Rattle.std.proofs.lemmas.List.Concat.{flat_map-cons}
use Rattle.std.proofs.lemmas.List.Folds.{flat_map-map}
use Rattle.std.proofs.lemmas.List.FromFn.{map-range_with_len_more}
use Rattle.std.proofs.lemmas.Grind.{flat_map-append}
use Rattle.pig_value.specs.Leaves.{AreBytes}
use Rattle.pig_value.proofs.list_laws.Listing.{each-append}
use Rattle.pig_demo.specs.Scene.{visit_field, visit_line, visit_lines}

-- one part more
one_more : (f : ℕ → List ℕ) (n : ℕ) → flat_map f (range_with_len 0 (n + 1)) ≡ flat_map f (range_with_len 0 n) ++ f n
one_more f n =
    let id : ℕ → ℕ = λ x. x in
    let zero_first : 0 + n ≡ n = omega arith in
    let more = map-range_with_len_more id 0 n n zero_first in
    sym (flat_map-map f id (range_with_len 0 (n + 1))) ∙ ap (flat_map f) more ∙ flat_map-append f (map id (range_with_len 0 n)) (n ∷ [])
    ∙ (λ i. flat_map-map f id (range_with_len 0 n) i ++ (flat_map-cons f n [] ∙ append-nil (f n)) i)

pub one_visit_more : (n : ℕ) → visit_lines (n + 1) ≡ visit_lines n ++ visit_line n
one_visit_more n = one_more visit_line n

-- ---- bytes

digits_are_bytes : (n : ℕ) → n < 2 ^ 64 → AreBytes (decimal n)
digits_are_bytes = decimal_by_steps (λ n ds. AreBytes ds) (λ n h. (omega (arith, h), tt)) (λ n ds h are. each-append (λ b. b < 256) ds ((48 + n % 10) ∷ []) are (omega arith, tt))

field_is_bytes : (letter : List ℕ) (n behind : ℕ) → AreBytes letter → n < 2 ^ 64 → behind < 256 → AreBytes (visit_field letter n behind)
field_is_bytes letter n behind are fits byte =
    let join = each-append (λ b. b < 256) in
    join (letter ++ decimal n) (behind ∷ []) (join letter (decimal n) are (digits_are_bytes n fits)) (byte, tt)

visit_is_bytes : (i : ℕ) → AreBytes (visit_line i)
visit_is_bytes i =
    let join = each-append (λ b. b < 256) in
    let user = field_is_bytes (codes "u") (i * 37 % 101) 9 (omega arith, tt) (omega arith) (omega arith) in
    let page = field_is_bytes (codes "p") (i * 61 % 997) 9 (omega arith, tt) (omega arith) (omega arith) in
    let time = field_is_bytes [] (i % 86400) 10 tt (omega arith) (omega arith) in
    join (visit_field (codes "u") (i * 37 % 101) 9 ++ visit_field (codes "p") (i * 61 % 997) 9) (visit_field [] (i % 86400) 10)
    (join (visit_field (codes "u") (i * 37 % 101) 9) (visit_field (codes "p") (i * 61 % 997) 9) user page) time

pub visits_are_bytes : (n : ℕ) → AreBytes (visit_lines n)
visits_are_bytes n = go 0 n
  where
    go : (a n : ℕ) → AreBytes (flat_map visit_line (range_with_len a n))
    go a zero = tt
    go a (suc n) = each-append (λ b. b < 256) (visit_line a) (flat_map visit_line (range_with_len (a + 1) n)) (visit_is_bytes a) (go (a + 1) n)
