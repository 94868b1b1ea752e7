-- What steps and FLATTEN make of each form of a value.
use Rattle.std.specs.Prelude.{◌≡◌, ◌<◌, ◌≤◌, ℕ, List, [], ◌∷◌, length, min, refl, slice_index_or, Some, take}
use Rattle.std.specs.Option.{option_map}
use Rattle.std.proofs.lemmas.Option.{slice_get_past, slice_get_read}
use Rattle.std.proofs.Common.{ap, sym, ◌∙◌, arith, inl, inr}
use Rattle.std.proofs.lemmas.Bool.{cases_lt}
use Rattle.std.specs.List.{take-map}
use Rattle.std.proofs.lemmas.List.{take_all}
use Rattle.pig_value.specs.Trees.{at, or_null, row_tree, rows_of_bag, rows_tree, Tree, tree, tuples_list, tuples_of, v_bag, v_listed, v_null}
use Rattle.pig_value.specs.declared.values.Value.{Value}
use Rattle.pig_value.specs.declared.values.Value.TheVariants as value
use Rattle.pig_value.proofs.list_laws.Listing.{some_same}
use Rattle.pig_value.proofs.TreeLaws.{at_map, fields_back, tree-Bag, tree-Listed, tree-Null, tree-Tuple, tuples_back}
use Rattle.pig_typed.specs.Blocks.{flattened, from_rows, on_rows}

pub bag_is : (rows : List (List Value)) → tree (value.Bag rows) ≡ v_bag (tuples_of (rows_tree rows))
bag_is rows = tree-Bag rows

pub listed_is : (rows : List (List Value)) → tree (value.Listed rows) ≡ v_listed (tuples_of (rows_tree rows))
listed_is rows = tree-Listed rows

pub on_bag : (f : List (List Tree) → List (List Tree)) (rows : List (List Value)) → on_rows f (tree (value.Bag rows)) ≡ v_bag (tuples_of (f (rows_tree rows)))
on_bag f rows = ap (on_rows f) (tree-Bag rows) ∙ ap (λ rs. v_bag (tuples_of (f rs))) (tuples_back (rows_tree rows))

pub on_listed : (f : List (List Tree) → List (List Tree)) (rows : List (List Value)) → on_rows f (tree (value.Listed rows)) ≡ v_listed (tuples_of (f (rows_tree rows)))
on_listed f rows = ap (on_rows f) (tree-Listed rows) ∙ ap (λ rs. v_listed (tuples_of (f rs))) (tuples_back (rows_tree rows))

pub from_bag : (make : List (List Tree) → Tree) (rows : List (List Value)) → from_rows make (tree (value.Bag rows)) ≡ make (rows_tree rows)
from_bag make rows = ap (from_rows make) (tree-Bag rows) ∙ ap make (tuples_back (rows_tree rows))

pub from_listed : (make : List (List Tree) → Tree) (rows : List (List Value)) → from_rows make (tree (value.Listed rows)) ≡ make (rows_tree rows)
from_listed make rows = ap (from_rows make) (tree-Listed rows) ∙ ap make (tuples_back (rows_tree rows))

pub flattened_tuple : (width : ℕ) (fields : List Value) → flattened width (tree (value.Tuple fields)) ≡ row_tree fields ∷ []
flattened_tuple width fields = ap (flattened width) (tree-Tuple fields) ∙ ap (λ row. row ∷ []) (fields_back (row_tree fields))

pub flattened_bag : (width : ℕ) (rows : List (List Value)) → flattened width (tree (value.Bag rows)) ≡ rows_tree rows
flattened_bag width rows = ap (flattened width) (tree-Bag rows) ∙ tuples_back (rows_tree rows)

pub flattened_listed : (width : ℕ) (rows : List (List Value)) → flattened width (tree (value.Listed rows)) ≡ rows_tree rows
flattened_listed width rows = ap (flattened width) (tree-Listed rows) ∙ tuples_back (rows_tree rows)

-- ---- of the rows that a value holds

pub from_found : (make : List (List Tree) → Tree) (v : Tree) (rows : List (List Tree)) → rows_of_bag v ≡ Some rows → from_rows make v ≡ make rows
from_found make (v_bag rs) rows is = ap make (some_same (tuples_list rs) rows is)
from_found make (v_listed rs) rows is = ap make (some_same (tuples_list rs) rows is)
from_found make v_null rows is = absurd (cc)
from_found make v rows is = absurd (cc)

pub flattened_found : (width : ℕ) (v : Tree) (rows : List (List Tree)) → rows_of_bag v ≡ Some rows → flattened width v ≡ rows
flattened_found width (v_bag rs) rows is = some_same (tuples_list rs) rows is
flattened_found width (v_listed rs) rows is = some_same (tuples_list rs) rows is
flattened_found width v_null rows is = absurd (cc)
flattened_found width v rows is = absurd (cc)

-- ---- steps, from what they make of the rows

pub bag_step : (f : List (List Tree) → List (List Tree)) (v : Value) (rows made : List (List Value)) → v ≡ value.Bag rows → rows_tree made ≡ f (rows_tree rows)
    → tree (value.Bag made) ≡ on_rows f (tree v)
bag_step f v rows made is same =
    tree-Bag made ∙ ap (λ rs. v_bag (tuples_of rs)) same ∙ sym (ap (λ w. on_rows f (tree w)) is ∙ on_bag f rows)

pub listed_step : (f : List (List Tree) → List (List Tree)) (v : Value) (rows made : List (List Value)) → v ≡ value.Listed rows → rows_tree made ≡ f (rows_tree rows)
    → tree (value.Listed made) ≡ on_rows f (tree v)
listed_step f v rows made is same =
    tree-Listed made ∙ ap (λ rs. v_listed (tuples_of rs)) same ∙ sym (ap (λ w. on_rows f (tree w)) is ∙ on_listed f rows)

-- a bag out of the rows of a bag or a listed bag
pub bag_from_bag : (f : List (List Tree) → List (List Tree)) (v : Value) (rows made : List (List Value)) → v ≡ value.Bag rows → rows_tree made ≡ f (rows_tree rows)
    → tree (value.Bag made) ≡ from_rows (λ rs. v_bag (tuples_of (f rs))) (tree v)
bag_from_bag f v rows made is same =
    tree-Bag made ∙ ap (λ rs. v_bag (tuples_of rs)) same
    ∙ sym (ap (λ w. from_rows (λ rs. v_bag (tuples_of (f rs))) (tree w)) is ∙ from_bag (λ rs. v_bag (tuples_of (f rs))) rows)

pub bag_from_listed : (f : List (List Tree) → List (List Tree)) (v : Value) (rows made : List (List Value)) → v ≡ value.Listed rows → rows_tree made ≡ f (rows_tree rows)
    → tree (value.Bag made) ≡ from_rows (λ rs. v_bag (tuples_of (f rs))) (tree v)
bag_from_listed f v rows made is same =
    tree-Bag made ∙ ap (λ rs. v_bag (tuples_of rs)) same
    ∙ sym (ap (λ w. from_rows (λ rs. v_bag (tuples_of (f rs))) (tree w)) is ∙ from_listed (λ rs. v_bag (tuples_of (f rs))) rows)

-- the first rows, of which there may be fewer
pub first_taken : (rows : List (List Value)) (n count : ℕ) → n ≡ min (length rows) count → rows_tree (take n rows) ≡ take count (rows_tree rows)
first_taken rows n count is = ap rows_tree same ∙ sym (take-map row_tree count rows)
  where
    same : take n rows ≡ take count rows
    same = elim (cases_lt count (length rows)) [
      | inl fewer ↦ (let e : n ≡ count = omega arith in ap (λ k. take k rows) e)
      | inr all ↦ take_all n rows (omega arith) ∙ sym (take_all count rows all)
    ]

-- ---- the field at a place

pub past_is_null : (row : List Value) (place : ℕ) → length row ≤ place → tree value.Null ≡ at place (row_tree row)
past_is_null row place past = tree-Null ∙ sym (at_map row place ∙ ap (λ found. or_null (option_map tree found)) (slice_get_past row place past))

pub taken_is : (row : List Value) (place : ℕ) (v : Value) → place < length row → v ≡ slice_index_or row place v → tree v ≡ at place (row_tree row)
taken_is row place v within is =
    sym (at_map row place ∙ ap (λ found. or_null (option_map tree found)) (slice_get_read row (length row) place v refl within is))
