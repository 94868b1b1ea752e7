-- The parts of DISTINCT are merged in any order and grouping, and end with the one row.
use Rattle.std.proofs.Common.{◌≡◌, refl, sym, ap, ◌∙◌, inl, inr}
use Rattle.std.specs.Prelude.{List, [], ◌∷◌, ◌++◌, ⊤}
use Rattle.std.specs.List.{AllByRecursion}
use Rattle.std.specs.List.Sorted.{IsPermutation}
use Rattle.pig_value.specs.Trees.{Tree, v_null}
use Rattle.pig_value.proofs.list_laws.Permutations.{Shuffled, after, same, shuffled_from_permutation, swapped, under}
use Rattle.pig_algebra.specs.Parts.{AreOfOne, AreOne, IsRowPart, Way, both, either_part, is_none, is_row, merged_by, no_row, one_row, row_part, row_parts, rows_in, the_row}

pub row_associates : (a b c : Tree) → IsRowPart a → IsRowPart b → IsRowPart c → either_part a (either_part b c) ≡ either_part (either_part a b) c
row_associates _ b c is_none q r = refl
row_associates _ b c (is_row row) q r = refl

or_none : (a : Tree) → IsRowPart a → either_part a v_null ≡ a
or_none _ is_none = refl
or_none _ (is_row row) = refl

pub row_commutes : (a b : Tree) → IsRowPart a → IsRowPart b → AreOfOne a b → either_part a b ≡ either_part b a
row_commutes a b p q (inl e) = ap (either_part a) (sym e) ∙ ap (λ x. either_part x a) e
row_commutes a b p q (inr (inl e)) = ap (λ x. either_part x b) e ∙ sym (ap (either_part b) e ∙ or_none b q)
row_commutes a b p q (inr (inr e)) = ap (either_part a) e ∙ or_none a p ∙ sym (ap (λ x. either_part x a) e)

pub row_merged : (a b : Tree) → IsRowPart a → IsRowPart b → IsRowPart (either_part a b)
row_merged _ b is_none q = q
row_merged _ b (is_row row) q = is_row row

first_row : (us vs : List (List Tree)) → either_part (the_row us) (the_row vs) ≡ the_row (us ++ vs)
first_row [] vs = refl
first_row (u ∷ us) vs = refl

row_way_is : (way : Way) → merged_by row_parts way ≡ the_row (rows_in way)
row_way_is no_row = refl
row_way_is (one_row row) = refl
row_way_is (both a b) =
    ap (λ p. either_part p (merged_by row_parts b)) (row_way_is a)
    ∙ ap (either_part (the_row (rows_in a))) (row_way_is b)
    ∙ first_row (rows_in a) (rows_in b)

-- all rows are this one
abbrev AreThis : List Tree → List (List Tree) → Type 0
AreThis row rows = AllByRecursion (λ other. other ≡ row) rows

all_before : (row : List Tree) (us vs : List (List Tree)) → Shuffled us vs → AreThis row vs → AreThis row us
all_before row us vs (same xs) h = h
all_before row us vs (under x k) h = (h.0, all_before row _ _ k h.1)
all_before row us vs (swapped x y zs) h = (h.1.0, (h.0, h.1.1))
all_before row us vs (after k l) h = all_before row _ _ k (all_before row _ _ l h)

same_first : (row : List Tree) (us vs : List (List Tree)) → Shuffled us vs → AreThis row vs → the_row us ≡ the_row vs
same_first row us vs (same xs) h = refl
same_first row us vs (under x k) h = refl
same_first row us vs (swapped x y zs) h = ap row_part (h.1.0 ∙ sym h.0)
same_first row us vs (after k l) h = same_first row _ _ k (all_before row _ _ l h) ∙ same_first row _ _ l h

abbrev IsEmpty : List (List Tree) → Type 0
IsEmpty [] = ⊤
IsEmpty (row ∷ rows) = ⊥

none_before : (us vs : List (List Tree)) → Shuffled us vs → IsEmpty vs → IsEmpty us
none_before us vs (same xs) h = h
none_before us vs (under x k) h = absurd h
none_before us vs (swapped x y zs) h = absurd h
none_before us vs (after k l) h = none_before _ _ k (none_before _ _ l h)

none_first : (us : List (List Tree)) → IsEmpty us → the_row us ≡ v_null
none_first [] h = refl
none_first (u ∷ us) h = absurd h

one_first : (us rows : List (List Tree)) → IsPermutation us rows → AreOne rows → the_row us ≡ the_row rows
one_first us [] k h = none_first us (none_before us [] (shuffled_from_permutation us [] k) tt)
one_first us (row ∷ rows) k h = same_first row us (row ∷ rows) (shuffled_from_permutation us (row ∷ rows) k) (refl, h)

pub row_any_way : (way : Way) (rows : List (List Tree)) → IsPermutation (rows_in way) rows → AreOne rows → merged_by row_parts way ≡ the_row rows
row_any_way way rows k h = row_way_is way ∙ one_first (rows_in way) rows k h
