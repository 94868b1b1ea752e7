-- A function of a projection of a bag, by way of the column that it reads.
use Rattle.std.proofs.Common.{◌≡◌, refl, sym, ap, ◌∙◌, subst, ℕ, List, [], ◌∷◌, map, length}
use Rattle.std.specs.Prelude.{Bool, true, false, pos, ◌==◌, Option, Some, None, slice_get}
use Rattle.std.specs.List.Sorted.{IsPermutation}
use Rattle.std.proofs.lemmas.List.{length-map}
use Rattle.std.proofs.lemmas.List.Sorted.{length_permutation, IsPermutation-map, IsPermutation-refl}
use Rattle.pig_value.specs.Functions.{aggregate, apply_tree, argument_rows, column_found, column_tree, long_of, looked_at}
use Rattle.pig_value.specs.Orders.{bag_of, row_cmp}
use Rattle.pig_value.specs.Trees.{at, or_null, Tree, Tuples, v_bag, v_listed, v_bool, tuples_list, tuples_of}
use Rattle.pig_value.specs.declared.functions.Function.{Function}
use Rattle.pig_value.specs.declared.functions.Function.TheVariants as f
use Rattle.pig_value.proofs.TreeLaws.{tuples_back}
use Rattle.pig_value.proofs.list_laws.Bags.{sort_permutes}
use Rattle.pig_builtins.specs.Folds.{is_algebraic}
use Rattle.pig_builtins.proofs.Merging.{in_any_order}
use Rattle.pig_typed.specs.Operators.{pick, project_tree}
use Rattle.pig_eval.specs.Columned.{ReadsColumn, counts_rows}

-- the rows of a projection of a bag, in some order, and of a listed bag in its order
picked_bag : (ns : List ℕ) (rows : List (List Tree)) → IsPermutation (map (pick ns) rows) (tuples_list (tuples_of (bag_of (map (pick ns) rows))))
picked_bag ns rows = subst (IsPermutation (map (pick ns) rows)) (sym (tuples_back (bag_of (map (pick ns) rows)))) (sort_permutes row_cmp (map (pick ns) rows))

picked_listed : (ns : List ℕ) (rows : List (List Tree)) → IsPermutation (map (pick ns) rows) (tuples_list (tuples_of (map (pick ns) rows)))
picked_listed ns rows = subst (IsPermutation (map (pick ns) rows)) (sym (tuples_back (map (pick ns) rows))) (IsPermutation-refl (map (pick ns) rows))

-- ---- the algebraic functions

algebraic_is : (function : Function) (args : List Tree) → is_algebraic function ≡ true → aggregate function args ≡ apply_tree function args
algebraic_is f.Count args h = refl
algebraic_is f.CountStar args h = refl
algebraic_is f.Sum args h = refl
algebraic_is f.Min args h = refl
algebraic_is f.Max args h = refl
algebraic_is function args h = absurd (cc)

read_rows : (function : Function) (ns : List ℕ) (n : ℕ) → ((row : List Tree) → looked_at function (pick ns row) ≡ at n row) → (rows : List (List Tree))
    → map (at n) rows ≡ map (looked_at function) (map (pick ns) rows)
read_rows function ns n reads [] = refl
read_rows function ns n reads (row ∷ rows) = λ i. sym (reads row) i ∷ read_rows function ns n reads rows i

read_column : (function : Function) (ns : List ℕ) (n : ℕ) → ReadsColumn function ns n → (rows made : List (List Tree)) → IsPermutation (map (pick ns) rows) made
    → column_tree function (map (at n) rows) ≡ column_tree function (map (looked_at function) made)
read_column function ns n reads rows made same =
    ap (column_tree function) (read_rows function ns n reads.1 rows)
    ∙ ap or_null (in_any_order function (map (looked_at function) (map (pick ns) rows)) (map (looked_at function) made)
    (IsPermutation-map (looked_at function) (map (pick ns) rows) made same))

pub column_is : (function : Function) (ns : List ℕ) (n : ℕ) (single : Bool) (v : Tree) (rows : List (List Tree)) → ReadsColumn function ns n
    → Some rows ≡ argument_rows (v ∷ []) → column_tree function (map (at n) rows) ≡ apply_tree function (project_tree ns single v ∷ [])
column_is function ns n single (v_bag ts) rows reads is =
    let same : rows ≡ tuples_list ts = ap (some_or rows) is in
    ap (λ rs. column_tree function (map (at n) rs)) same
    ∙ read_column function ns n reads (tuples_list ts) (tuples_list (tuples_of (bag_of (map (pick ns) (tuples_list ts))))) (picked_bag ns (tuples_list ts))
    ∙ algebraic_is function (project_tree ns single (v_bag ts) ∷ []) reads.0
  where
    some_or : List (List Tree) → Option (List (List Tree)) → List (List Tree)
    some_or d None = d
    some_or d (Some rs) = rs
column_is function ns n single (v_listed ts) rows reads is =
    let same : rows ≡ tuples_list ts = ap (some_or rows) is in
    ap (λ rs. column_tree function (map (at n) rs)) same
    ∙ read_column function ns n reads (tuples_list ts) (tuples_list (tuples_of (map (pick ns) (tuples_list ts)))) (picked_listed ns (tuples_list ts))
    ∙ algebraic_is function (project_tree ns single (v_listed ts) ∷ []) reads.0
  where
    some_or : List (List Tree) → Option (List (List Tree)) → List (List Tree)
    some_or d None = d
    some_or d (Some rs) = rs
column_is function ns n single v rows reads is = absurd (cc)

-- ---- SIZE and IsEmpty

as_many : (ns : List ℕ) (ts : Tuples) (made : List (List Tree)) → IsPermutation (map (pick ns) (tuples_list ts)) made → length (tuples_list ts) ≡ length made
as_many ns ts made same = sym (length-map (tuples_list ts) (pick ns)) ∙ sym (length_permutation (map (pick ns) (tuples_list ts)) made same)

pub counted_is : (function : Function) (ns : List ℕ) (single : Bool) (v : Tree) (rows : List (List Tree)) → counts_rows function ≡ true
    → Some rows ≡ argument_rows (v ∷ []) → apply_tree function (v ∷ []) ≡ apply_tree function (project_tree ns single v ∷ [])
counted_is f.Size ns single (v_bag ts) rows h is = ap (λ n. long_of (pos n)) (as_many ns ts _ (picked_bag ns (tuples_list ts)))
counted_is f.Size ns single (v_listed ts) rows h is = ap (λ n. long_of (pos n)) (as_many ns ts _ (picked_listed ns (tuples_list ts)))
counted_is f.IsEmpty ns single (v_bag ts) rows h is = ap (λ n. v_bool (n == 0)) (as_many ns ts _ (picked_bag ns (tuples_list ts)))
counted_is f.IsEmpty ns single (v_listed ts) rows h is = ap (λ n. v_bool (n == 0)) (as_many ns ts _ (picked_listed ns (tuples_list ts)))
counted_is f.Size ns single v rows h is = absurd (cc)
counted_is f.IsEmpty ns single v rows h is = absurd (cc)
counted_is function ns single v rows h is = absurd (cc)
