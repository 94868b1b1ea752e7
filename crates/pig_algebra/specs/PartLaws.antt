-- Parts are merged in any order and grouping, and end with what the function gives of the bag of all rows.
use Rattle.std.proofs.Common.{◌≡◌, refl, sym, ap, ◌∙◌, subst, inl, inr}
use Rattle.std.specs.Prelude.{ℤ, Bool, pos, ◌+ℤ◌, true, false, List, [], ◌∷◌, ◌++◌, length, map, Option, Some, None, ⊤, ◌⊎◌, if◌then◌else◌}
use Rattle.std.specs.Int.{w64, int_wrap}
use Rattle.std.specs.List.{filter, filter_map}
use Rattle.std.specs.List.Sorted.{IsPermutation}
use Rattle.std.specs.Ordering.{is_gt}
use Rattle.std.proofs.lemmas.Int.{SFits-int_wrap, int_wrap_fits, int_wrap-add_left}
use Rattle.std.proofs.lemmas.List.{map-append}
use Rattle.std.proofs.lemmas.List.Sorted.{IsPermutation-map, IsPermutation-sym}
use Rattle.std.proofs.Math.IntN.{+ℤ_idl}
use Rattle.pig_value.specs.Functions.{aggregate, apply_tree, bag_tree, column_found, column_tree, first_found, is_present, is_ranked, long_of, looked_at, sum_found, whole_of}
use Rattle.pig_value.specs.Orders.{bag_of, dir_cmp, row_cmp}
use Rattle.pig_value.specs.Trees.{Tree, or_null, v_chars, v_int, v_long, v_null}
use Rattle.pig_value.specs.declared.functions.Function.{Function}
use Rattle.pig_value.specs.declared.functions.Function.TheVariants as f
use Rattle.pig_value.specs.declared.operators.Dir.{Dir}
use Rattle.pig_value.specs.declared.operators.Dir.TheVariants as dir
use Rattle.pig_value.proofs.TreeLaws.{tuples_back}
use Rattle.pig_value.proofs.list_laws.Bags.{either_way, sort_permutes}
use Rattle.pig_value.proofs.list_laws.Permutations.{neighbours}
use Rattle.pig_builtins.specs.Folds.{first_of, is_algebraic, merge_found}
use Rattle.pig_builtins.proofs.Merging.{in_any_order, merged}
use Rattle.pig_builtins.proofs.Sums.{sum_alone}
use Rattle.pig_algebra.specs.Parts.{IsLong, IsPart, Way, both, is_long, merge_parts, merged_by, merging, no_row, one_row, part_found, parts_of, rows_in, value_of}

-- ---- what is found is no null

-- false is not true
abbrev IsHeld : Bool → Type 0
IsHeld true = ⊤
IsHeld false = ⊥

pub refuted : {G : Type 0} → false ≡ true → G
refuted h = absurd (subst IsHeld (sym h) tt)

-- a value that MIN and MAX choose among, if any
abbrev IsChoice : Option Tree → Type 0
IsChoice None = ⊤
IsChoice (Some v) = is_ranked v ≡ true

first_choice : (d : Dir) (a b : Option Tree) → IsChoice a → IsChoice b → IsChoice (first_of d a b)
first_choice d None b h k = k
first_choice d (Some a) None h k = h
first_choice d (Some a) (Some b) h k = either_way (is_gt (dir_cmp d a b))
    (λ e. subst (λ c. is_ranked (if c then b else a) ≡ true) (sym e) k)
    (λ e. subst (λ c. is_ranked (if c then b else a) ≡ true) (sym e) h)

choice_alone : (d : Dir) (v : Tree) → IsChoice (first_found d (v ∷ []))
choice_alone d (v_int z) = refl
choice_alone d (v_long z) = refl
choice_alone d (v_chars text) = refl
choice_alone d v = tt

least_choice : (vs : List Tree) → IsChoice (first_found dir.Asc vs)
least_choice [] = tt
least_choice (v ∷ vs) = subst IsChoice (sym (merged f.Min (v ∷ []) vs)) (first_choice dir.Asc (first_found dir.Asc (v ∷ [])) (first_found dir.Asc vs) (choice_alone dir.Asc v) (least_choice vs))

greatest_choice : (vs : List Tree) → IsChoice (first_found dir.Desc vs)
greatest_choice [] = tt
greatest_choice (v ∷ vs) = subst IsChoice (sym (merged f.Max (v ∷ []) vs)) (first_choice dir.Desc (first_found dir.Desc (v ∷ [])) (first_found dir.Desc vs) (choice_alone dir.Desc v) (greatest_choice vs))

ranked_back : (v : Tree) → is_ranked v ≡ true → part_found v ≡ Some v
ranked_back v_null h = refuted h
ranked_back v h = refl

choice_back : (o : Option Tree) → IsChoice o → part_found (or_null o) ≡ o
choice_back None h = refl
choice_back (Some v) h = ranked_back v h

sum_back : (zs : List ℤ) → part_found (or_null (sum_found zs)) ≡ sum_found zs
sum_back [] = refl
sum_back (z ∷ zs) = refl

found_back : (function : Function) (vs : List Tree) → part_found (column_tree function vs) ≡ column_found function vs
found_back f.Count vs = refl
found_back f.CountStar vs = refl
found_back f.Sum vs = sum_back (filter_map whole_of vs)
found_back f.Min vs = choice_back (first_found dir.Asc vs) (least_choice vs)
found_back f.Max vs = choice_back (first_found dir.Desc vs) (greatest_choice vs)
found_back f.Size vs = refl
found_back f.Concat vs = refl
found_back f.IsEmpty vs = refl
found_back f.Tokenize vs = refl
found_back f.Substring vs = refl
found_back f.StartsWith vs = refl
found_back f.EndsWith vs = refl
found_back f.IndexOf vs = refl
found_back f.Abs vs = refl
found_back f.ToTuple vs = refl
found_back (f.ToBag width) vs = refl

-- ---- parts of columns

-- the parts of two columns together are the part of the one behind the other
pub merge_columns : (function : Function) (us vs : List Tree) → merge_parts function (column_tree function us) (column_tree function vs) ≡ column_tree function (us ++ vs)
merge_columns function us vs =
    ap (λ o. or_null (merge_found function o (part_found (column_tree function vs)))) (found_back function us)
    ∙ ap (λ o. or_null (merge_found function (column_found function us) o)) (found_back function vs)
    ∙ ap or_null (sym (merged function us vs))

sum_part : (zs : List ℤ) → IsPart f.Sum (or_null (sum_found zs))
sum_part [] = inl refl
sum_part (z ∷ zs) = inr (is_long _ (SFits-int_wrap w64 _))

choice_part : (o : Option Tree) → IsChoice o → (or_null o ≡ v_null) ⊎ (is_ranked (or_null o) ≡ true)
choice_part None h = inl refl
choice_part (Some v) h = inr h

-- what a function gives of a column is a part
pub column_part : (function : Function) → is_algebraic function ≡ true → (vs : List Tree) → IsPart function (column_tree function vs)
column_part f.Count h vs = is_long _ (SFits-int_wrap w64 (pos (length (filter is_present vs))))
column_part f.CountStar h vs = is_long _ (SFits-int_wrap w64 (pos (length vs)))
column_part f.Sum h vs = sum_part (filter_map whole_of vs)
column_part f.Min h vs = choice_part (first_found dir.Asc vs) (least_choice vs)
column_part f.Max h vs = choice_part (first_found dir.Desc vs) (greatest_choice vs)
column_part function h vs = refuted h

-- ---- a part as the column of it alone

long_alone : (p : Tree) → IsLong p → column_tree f.Sum (p ∷ []) ≡ p
long_alone _ (is_long n fits) = ap v_long (sym (sum_alone n fits))

ranked_alone : (d : Dir) (p : Tree) → is_ranked p ≡ true → or_null (first_found d (p ∷ [])) ≡ p
ranked_alone d (v_int z) h = refl
ranked_alone d (v_long z) h = refl
ranked_alone d (v_chars text) h = refl
ranked_alone d p h = refuted h

pub itself : (function : Function) (p : Tree) → IsPart function p → column_tree (merging function) (p ∷ []) ≡ p
itself f.Count p h = long_alone p h
itself f.CountStar p h = long_alone p h
itself f.Sum p (inl e) = subst (λ q. column_tree f.Sum (q ∷ []) ≡ q) (sym e) refl
itself f.Sum p (inr h) = long_alone p h
itself f.Min p (inl e) = subst (λ q. column_tree f.Min (q ∷ []) ≡ q) (sym e) refl
itself f.Min p (inr h) = ranked_alone dir.Asc p h
itself f.Max p (inl e) = subst (λ q. column_tree f.Max (q ∷ []) ≡ q) (sym e) refl
itself f.Max p (inr h) = ranked_alone dir.Desc p h
itself function p h = absurd h

-- parts are merged as the sums, the least and the greatest of them
pub same_merge : (function : Function) (a b : Tree) → merge_parts (merging function) a b ≡ merge_parts function a b
same_merge f.Count a b = refl
same_merge f.CountStar a b = refl
same_merge function a b = refl

-- two parts, merged, and three
two : (function : Function) (a b : Tree) → IsPart function a → IsPart function b → merge_parts function a b ≡ column_tree (merging function) (a ∷ b ∷ [])
two function a b p q =
    sym (same_merge function a b)
    ∙ ap (λ x. merge_parts (merging function) x b) (sym (itself function a p))
    ∙ ap (merge_parts (merging function) (column_tree (merging function) (a ∷ []))) (sym (itself function b q))
    ∙ merge_columns (merging function) (a ∷ []) (b ∷ [])

before_two : (function : Function) (a b c : Tree) → IsPart function a → IsPart function b → IsPart function c
    → merge_parts function a (merge_parts function b c) ≡ column_tree (merging function) (a ∷ b ∷ c ∷ [])
before_two function a b c p q r =
    ap (merge_parts function a) (two function b c q r)
    ∙ sym (same_merge function a (column_tree (merging function) (b ∷ c ∷ [])))
    ∙ ap (λ x. merge_parts (merging function) x (column_tree (merging function) (b ∷ c ∷ []))) (sym (itself function a p))
    ∙ merge_columns (merging function) (a ∷ []) (b ∷ c ∷ [])

behind_two : (function : Function) (a b c : Tree) → IsPart function a → IsPart function b → IsPart function c
    → merge_parts function (merge_parts function a b) c ≡ column_tree (merging function) (a ∷ b ∷ c ∷ [])
behind_two function a b c p q r =
    ap (λ x. merge_parts function x c) (two function a b p q)
    ∙ sym (same_merge function (column_tree (merging function) (a ∷ b ∷ [])) c)
    ∙ ap (merge_parts (merging function) (column_tree (merging function) (a ∷ b ∷ []))) (sym (itself function c r))
    ∙ merge_columns (merging function) (a ∷ b ∷ []) (c ∷ [])

-- ---- the laws

pub parts_commute : (function : Function) (a b : Tree) → IsPart function a → IsPart function b → merge_parts function a b ≡ merge_parts function b a
parts_commute function a b p q =
    two function a b p q
    ∙ ap or_null (in_any_order (merging function) (a ∷ b ∷ []) (b ∷ a ∷ []) (neighbours a b []))
    ∙ sym (two function b a q p)

pub parts_associate : (function : Function) (a b c : Tree) → IsPart function a → IsPart function b → IsPart function c
    → merge_parts function a (merge_parts function b c) ≡ merge_parts function (merge_parts function a b) c
parts_associate function a b c p q r = before_two function a b c p q r ∙ sym (behind_two function a b c p q r)

longs_merged : (a b : Tree) → IsLong a → IsLong b → IsLong (merge_parts f.Sum a b)
longs_merged _ _ (is_long n p) (is_long m q) = is_long _ (SFits-int_wrap w64 (n +ℤ m))

pub part_merged : (function : Function) → is_algebraic function ≡ true → (a b : Tree) → IsPart function a → IsPart function b → IsPart function (merge_parts function a b)
part_merged f.Count h a b p q = longs_merged a b p q
part_merged f.CountStar h a b p q = longs_merged a b p q
part_merged f.Sum h a b p q = subst (IsPart f.Sum) (sym (two f.Sum a b p q)) (column_part f.Sum refl (a ∷ b ∷ []))
part_merged f.Min h a b p q = subst (IsPart f.Min) (sym (two f.Min a b p q)) (column_part f.Min refl (a ∷ b ∷ []))
part_merged f.Max h a b p q = subst (IsPart f.Max) (sym (two f.Max a b p q)) (column_part f.Max refl (a ∷ b ∷ []))
part_merged function h a b p q = refuted h

or_found : (p : Tree) → or_null (part_found p) ≡ p
or_found v_null = refl
or_found p = refl

none_and_long : (p : Tree) → IsLong p → merge_parts f.Sum (long_of (pos 0)) p ≡ p
none_and_long _ (is_long n fits) =
    ap v_long (int_wrap-add_left w64 (pos 0) n ∙ ap (int_wrap w64) (+ℤ_idl n) ∙ int_wrap_fits w64 n fits)

pub unit_stays : (function : Function) (p : Tree) → IsPart function p → merge_parts function (column_tree function []) p ≡ p
unit_stays f.Count p h = none_and_long p h
unit_stays f.CountStar p h = none_and_long p h
unit_stays f.Sum p h = or_found p
unit_stays f.Min p h = or_found p
unit_stays f.Max p h = or_found p
unit_stays function p h = absurd h

-- ---- the bag of rows

applied : (function : Function) → is_algebraic function ≡ true → (args : List Tree) → apply_tree function args ≡ aggregate function args
applied f.Count h args = refl
applied f.CountStar h args = refl
applied f.Sum h args = refl
applied f.Min h args = refl
applied f.Max h args = refl
applied function h args = refuted h

-- of rows in another order a function gives the same
pub column_permuted : (function : Function) (look : List Tree → Tree) (rows others : List (List Tree)) → IsPermutation rows others
    → column_tree function (map look rows) ≡ column_tree function (map look others)
column_permuted function look rows others h = ap or_null (in_any_order function (map look rows) (map look others) (IsPermutation-map look rows others h))

-- of a bag a function gives what it gives of the column of its rows
pub value_is : (function : Function) → is_algebraic function ≡ true → (rows : List (List Tree)) → value_of function rows ≡ column_tree function (map (looked_at function) rows)
value_is function h rows =
    applied function h (bag_tree rows ∷ [])
    ∙ ap (λ rs. column_tree function (map (looked_at function) rs)) (tuples_back (bag_of rows))
    ∙ column_permuted function (looked_at function) (bag_of rows) rows (IsPermutation-sym rows (bag_of rows) (sort_permutes row_cmp rows))

way_is : (function : Function) (way : Way) → merged_by (parts_of function) way ≡ column_tree function (map (looked_at function) (rows_in way))
way_is function no_row = refl
way_is function (one_row row) = refl
way_is function (both a b) =
    ap (λ p. merge_parts function p (merged_by (parts_of function) b)) (way_is function a)
    ∙ ap (merge_parts function (column_tree function (map (looked_at function) (rows_in a)))) (way_is function b)
    ∙ merge_columns function (map (looked_at function) (rows_in a)) (map (looked_at function) (rows_in b))
    ∙ ap (column_tree function) (sym (map-append (looked_at function) (rows_in a) (rows_in b)))

pub parts_any_way : (function : Function) → is_algebraic function ≡ true → (way : Way) (rows : List (List Tree)) → IsPermutation (rows_in way) rows
    → merged_by (parts_of function) way ≡ value_of function rows
parts_any_way function h way rows k =
    way_is function way ∙ column_permuted function (looked_at function) (rows_in way) rows k ∙ sym (value_is function h rows)
