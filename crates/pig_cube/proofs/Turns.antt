-- The next turn of a loop over numbers.
use Rattle.std.specs.Prelude.{◌≡◌, ◌+◌, ℕ, zero, suc, Bool, true, false, not, List, [], ◌∷◌, ◌++◌, map, take}
use Rattle.std.proofs.Common.{ap, sym, ◌∙◌, arith, cond, append-nil}
use Rattle.std.specs.List.{filter, range_with_len}
use Rattle.std.proofs.lemmas.List.Elements.{filter-append}
use Rattle.std.proofs.lemmas.List.FromFn.{map-range_with_len_more}
use Rattle.pig_cube.specs.Dimensions.{is_in, other_positions}

range_more : (a n k : ℕ) → a + n ≡ k → range_with_len a (suc n) ≡ range_with_len a n ++ k ∷ []
range_more a zero k e = let same : a ≡ k = omega (arith, e) in ap (λ j. j ∷ []) same
range_more a (suc n) k e = ap (λ ks. a ∷ ks) (range_more (a + 1) n k (omega (arith, e)))

others_more : (dims : List ℕ) (n : ℕ) (b : Bool) → is_in dims n ≡ b → other_positions dims (n + 1) ≡ other_positions dims n ++ cond (not b) (n ∷ []) []
others_more dims n b e =
    let next : n + 1 ≡ suc n = omega arith in
    ap (λ m. other_positions dims m) next
    ∙ ap (filter (λ p. not (is_in dims p))) (range_more 0 n n (omega arith))
    ∙ filter-append (λ p. not (is_in dims p)) (range_with_len 0 n) (n ∷ [])
    ∙ ap (λ c. other_positions dims n ++ cond (not c) (n ∷ []) []) e

-- a dimension is left out, and another position is the next
pub other_passed : (dims others : List ℕ) (n : ℕ) → is_in dims n ≡ true → others ≡ other_positions dims n → others ≡ other_positions dims (n + 1)
other_passed dims others n e h = h ∙ sym (append-nil (other_positions dims n)) ∙ sym (others_more dims n true e)

pub other_kept : (dims others made : List ℕ) (n : ℕ) → is_in dims n ≡ false → others ≡ other_positions dims n → made ≡ others ++ n ∷ [] → made ≡ other_positions dims (n + 1)
other_kept dims others made n e h m = m ∙ ap (λ ps. ps ++ n ∷ []) h ∙ sym (others_more dims n false e)

-- one prefix more
pub prefix_made : (positions : List ℕ) (sets made : List (List ℕ)) (prefix : List ℕ) (n : ℕ) → sets ≡ map (λ k. take k positions) (range_with_len 0 n)
    → prefix ≡ take n positions → made ≡ sets ++ prefix ∷ [] → made ≡ map (λ k. take k positions) (range_with_len 0 (n + 1))
prefix_made positions sets made prefix n h e m =
    m ∙ (λ i. h i ++ e i ∷ []) ∙ sym (map-range_with_len_more (λ k. take k positions) 0 n n (omega arith))
