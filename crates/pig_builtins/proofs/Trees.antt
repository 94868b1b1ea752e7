-- What the trees of values hold.
use Rattle.std.proofs.Common.{◌≡◌, refl, ap, ◌∙◌, [], ◌∷◌, List, ℕ}
use Rattle.std.specs.Prelude.{Some, None, pos, length, map, nat_eq, ◌==◌, if◌then◌else◌}
use Rattle.std.proofs.lemmas.List.{length-map}
use Rattle.pig_value.specs.Functions.{argument_rows, size_tree, isempty_tree, long_of, bag_tree, row_from, totuple_tree}
use Rattle.pig_value.specs.Orders.{bag_of}
use Rattle.pig_value.specs.Trees.{Tree, tree, entry_of, rows_tree, v_bag, v_bool, fields_list, fields_of, tuples_list, tuples_of, entries_list, entries_of}
use Rattle.pig_value.proofs.TreeLaws.{tree-Tuple, tree-Bag, tree-Listed, tree-Map, fields_back, tuples_back, entries_back}
use Rattle.pig_value.specs.declared.values.Pair.{Pair}
use Rattle.pig_value.specs.declared.values.Value.{Value}
use Rattle.pig_value.specs.declared.values.Value.TheVariants as value

pub bag_rows : (rows : List (List Value)) → argument_rows (tree (value.Bag rows) ∷ []) ≡ Some (rows_tree rows)
bag_rows rows = ap (λ v. argument_rows (v ∷ [])) (tree-Bag rows) ∙ ap Some (tuples_back (rows_tree rows))

pub listed_rows : (rows : List (List Value)) → argument_rows (tree (value.Listed rows) ∷ []) ≡ Some (rows_tree rows)
listed_rows rows = ap (λ v. argument_rows (v ∷ [])) (tree-Listed rows) ∙ ap Some (tuples_back (rows_tree rows))

-- as many as the value has
fields_counted : (vs : List Value) → length (fields_list (fields_of (map tree vs))) ≡ length vs
fields_counted vs = ap length (fields_back (map tree vs)) ∙ length-map vs tree

rows_counted : (rows : List (List Value)) → length (tuples_list (tuples_of (rows_tree rows))) ≡ length rows
rows_counted rows = ap length (tuples_back (rows_tree rows)) ∙ length-map rows (map tree)

pairs_counted : (pairs : List Pair) → length (entries_list (entries_of (map entry_of pairs))) ≡ length pairs
pairs_counted pairs = ap length (entries_back (map entry_of pairs)) ∙ length-map pairs entry_of

pub tuple_size : (vs : List Value) → size_tree (tree (value.Tuple vs) ∷ []) ≡ long_of (pos (length vs))
tuple_size vs = ap (λ v. size_tree (v ∷ [])) (tree-Tuple vs) ∙ ap (λ n. long_of (pos n)) (fields_counted vs)

pub bag_size : (rows : List (List Value)) → size_tree (tree (value.Bag rows) ∷ []) ≡ long_of (pos (length rows))
bag_size rows = ap (λ v. size_tree (v ∷ [])) (tree-Bag rows) ∙ ap (λ n. long_of (pos n)) (rows_counted rows)

pub listed_size : (rows : List (List Value)) → size_tree (tree (value.Listed rows) ∷ []) ≡ long_of (pos (length rows))
listed_size rows = ap (λ v. size_tree (v ∷ [])) (tree-Listed rows) ∙ ap (λ n. long_of (pos n)) (rows_counted rows)

pub map_size : (pairs : List Pair) → size_tree (tree (value.Map pairs) ∷ []) ≡ long_of (pos (length pairs))
map_size pairs = ap (λ v. size_tree (v ∷ [])) (tree-Map pairs) ∙ ap (λ n. long_of (pos n)) (pairs_counted pairs)

pub bag_is_empty : (rows : List (List Value)) → isempty_tree (tree (value.Bag rows) ∷ []) ≡ v_bool (nat_eq (length rows) 0)
bag_is_empty rows = ap (λ v. isempty_tree (v ∷ [])) (tree-Bag rows) ∙ ap (λ n. v_bool (nat_eq n 0)) (rows_counted rows)

pub listed_is_empty : (rows : List (List Value)) → isempty_tree (tree (value.Listed rows) ∷ []) ≡ v_bool (nat_eq (length rows) 0)
listed_is_empty rows = ap (λ v. isempty_tree (v ∷ [])) (tree-Listed rows) ∙ ap (λ n. v_bool (nat_eq n 0)) (rows_counted rows)

pub map_is_empty : (pairs : List Pair) → isempty_tree (tree (value.Map pairs) ∷ []) ≡ v_bool (nat_eq (length pairs) 0)
map_is_empty pairs = ap (λ v. isempty_tree (v ∷ [])) (tree-Map pairs) ∙ ap (λ n. v_bool (nat_eq n 0)) (pairs_counted pairs)

-- the bag of rows
pub bag_made : (rows : List (List Value)) (made : List (List Tree)) → rows_tree rows ≡ bag_of made → tree (value.Bag rows) ≡ bag_tree made
bag_made rows made is = tree-Bag rows ∙ ap (λ rs. v_bag (tuples_of rs)) is

-- the tuple of values, and the row of TOBAG that a tuple gives
pub tuple_made : (vs : List Value) → ¬ (vs ≡ []) → tree (value.Tuple vs) ≡ totuple_tree (map tree vs)
tuple_made [] h = absurd (h refl)
tuple_made (v ∷ vs) h = tree-Tuple (v ∷ vs)

pub tuple_row : (width : ℕ) (vs : List Value) → row_from (Some width) (tree (value.Tuple vs)) ≡ (if length vs == width then Some (map tree vs) else None)
tuple_row width vs =
    ap (row_from (Some width)) (tree-Tuple vs)
    ∙ (λ i. if fields_counted vs i == width then Some (fields_back (map tree vs) i) else None)
