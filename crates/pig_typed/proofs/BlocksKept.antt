-- On a row of the kinds that it was typed for, a block makes rows of its kinds.
use Rattle.std.specs.Prelude.{◌≡◌, ◌==◌, ◌++◌, ℕ, Bool, true, false, not, List, [], ◌∷◌, length, map, take, replicate, Option, Some, None, slice_get, refl, if◌then◌else◌}
use Rattle.std.specs.List.{filter, flat_map, AllByRecursion}
use Rattle.std.specs.Option.{option_and_then, option_map}
use Rattle.std.proofs.Common.{ap, sym, subst}
use Rattle.std.proofs.lemmas.Bool.{eqb-true}
use Rattle.pig_value.specs.Kinds.{IsOf, IsRowOf, AreRowsOf, FieldsOf, TuplesOf}
use Rattle.pig_value.specs.Orders.{row_cmp}
use Rattle.pig_value.specs.Sorts.{distinct, sort}
use Rattle.pig_value.specs.Trees.{Tree, v_null, v_bool, v_int, v_long, v_chars, v_bytes, v_tuple, v_bag, v_listed, v_map, tuples_list, tuples_of, KindTree, KindTrees, k_boolean, k_int, k_long, k_chars, k_bytes, k_tuple, k_bag, k_map, no_kinds, more_kinds, kinds_list, kinds_of, bag_kinds}
use Rattle.pig_value.proofs.KindLaws.{row_of-append, row_of_nulls, rows_of-append, rows_of-filter, rows_of-take, rows_of_each, rows_of_from_each}
use Rattle.pig_value.proofs.TreeLaws.{kinds_back}
use Rattle.pig_value.proofs.OfRead.{OfRead}
use Rattle.pig_value.proofs.list_laws.Bags.{each-sort}
use Rattle.pig_value.proofs.list_laws.Distinct.{each-distinct}
use Rattle.pig_typed.specs.declared.blocks.SortKey.{SortKey}
use Rattle.pig_typed.specs.BlockKinds.{are_keys, bag_rows, filtered_kind, flattened_kinds, given_kinds, if_boolean, item_kinds, items_kinds, of_width, row_kinds, sorted_kind, step_kind, steps_kinds}
use Rattle.pig_typed.specs.Blocks.{flattened, foreach_rows, from_rows, item_lists, keys_cmp, on_rows, step_value, steps_values}
use Rattle.pig_typed.specs.Evaluation.{ev, passes}
use Rattle.pig_typed.specs.ExprKinds.{expr_kind}
use Rattle.pig_typed.specs.Premises.{FunctionsKeepKinds}
use Rattle.pig_typed.specs.Products.{joined, product}
use Rattle.pig_typed.specs.Typed.{Typed, TypedBlock, TypedItem, TypedStep, s_filter, s_order, s_limit, s_distinct, s_take}
use Rattle.pig_typed.proofs.Found.{tested, then_found}
use Rattle.pig_typed.proofs.KindsKept.{fields_listed, kept, tuples_listed}

-- ---- steps

kinds_there : (ks : KindTrees) → kinds_of (kinds_list ks) ≡ ks
kinds_there no_kinds = refl
kinds_there (more_kinds k ks) = ap (λ more. more_kinds k more) (kinds_there ks)

-- a bag of rows of these kinds, or null
abbrev IsBagOf : Tree → List KindTree → Type 0
IsBagOf v rows = IsOf v (k_bag (kinds_of rows))

bag_kept : (k : KindTree) (v : Tree) → IsOf v k → OfRead (IsBagOf v) (bag_kinds k)
bag_kept (k_bag ks) v h = subst (λ l. IsOf v (k_bag l)) (sym (kinds_there ks)) h
bag_kept k v h = tt

bag_of_rows : (rows : List KindTree) (v : Tree) (f : List (List Tree) → List (List Tree)) → ((rs : List (List Tree)) → AreRowsOf rs rows → AreRowsOf (f rs) rows)
    → IsBagOf v rows → IsBagOf (on_rows f v) rows
bag_of_rows rows v_null f keeps h = tt
bag_of_rows rows (v_bag rs) f keeps h = keeps (tuples_list rs) (subst (AreRowsOf (tuples_list rs)) (kinds_back rows) (tuples_listed rs (kinds_of rows) h))
bag_of_rows rows (v_listed rs) f keeps h = keeps (tuples_list rs) (subst (AreRowsOf (tuples_list rs)) (kinds_back rows) (tuples_listed rs (kinds_of rows) h))
bag_of_rows rows v f keeps h = absurd h

bag_from_rows : (rows : List KindTree) (v : Tree) (make : List (List Tree) → Tree) → ((rs : List (List Tree)) → AreRowsOf rs rows → IsBagOf (make rs) rows)
    → IsBagOf v rows → IsBagOf (from_rows make v) rows
bag_from_rows rows v_null make keeps h = tt
bag_from_rows rows (v_bag rs) make keeps h = keeps (tuples_list rs) (subst (AreRowsOf (tuples_list rs)) (kinds_back rows) (tuples_listed rs (kinds_of rows) h))
bag_from_rows rows (v_listed rs) make keeps h = keeps (tuples_list rs) (subst (AreRowsOf (tuples_list rs)) (kinds_back rows) (tuples_listed rs (kinds_of rows) h))
bag_from_rows rows v make keeps h = absurd h

sort_kept : (keys : List SortKey) (rows : List KindTree) (rs : List (List Tree)) → AreRowsOf rs rows → AreRowsOf (sort (keys_cmp keys) rs) rows
sort_kept keys rows rs h = rows_of_from_each rows (sort (keys_cmp keys) rs) (each-sort (keys_cmp keys) (λ row. IsRowOf row rows) rs (rows_of_each rows rs h))

distinct_kept : (rows : List KindTree) (rs : List (List Tree)) → AreRowsOf rs rows → AreRowsOf (distinct row_cmp rs) rows
distinct_kept rows rs h = rows_of_from_each rows (distinct row_cmp rs) (each-distinct row_cmp (λ row. IsRowOf row rows) rs (rows_of_each rows rs h))

-- a kind of bag that is found stands for such bags
kind_kept : (v w : Tree) (o : Option (List KindTree)) → ((rows : List KindTree) → IsBagOf v rows → IsBagOf w rows) → OfRead (IsBagOf v) o → OfRead (IsOf w) (option_map (λ rows. k_bag (kinds_of rows)) o)
kind_kept v w None keeps h = tt
kind_kept v w (Some rows) keeps h = keeps rows h

if_boolean_kept : (v : Tree) (k : KindTree) → IsOf v k → (c : KindTree) → OfRead (IsOf v) (if_boolean k c)
if_boolean_kept v k h k_boolean = h
if_boolean_kept v k h c = tt

filtered_kept : (v : Tree) (rows : List KindTree) → IsBagOf v rows → (o : Option KindTree) → OfRead (IsOf v) (option_and_then (if_boolean (k_bag (kinds_of rows))) o)
filtered_kept v rows h None = tt
filtered_kept v rows h (Some c) = if_boolean_kept v (k_bag (kinds_of rows)) h c

module _ (functions : FunctionsKeepKinds) (row : List Tree) (ks : List KindTree) (h : IsRowOf row ks) where
  bag_rows_kept : (from : Typed) (locals : List Tree) (ls : List KindTree) → IsRowOf locals ls → OfRead (IsBagOf (ev from row locals)) (bag_rows from ks ls)
  bag_rows_kept from locals ls g =
      then_found (IsOf (ev from row locals)) (IsBagOf (ev from row locals)) bag_kinds (λ k i. bag_kept k (ev from row locals) i) (expr_kind from ks ls) (kept functions row locals ks ls h g from)

  step_kept : (s : TypedStep) (locals : List Tree) (ls : List KindTree) → IsRowOf locals ls → OfRead (IsOf (step_value s row locals)) (step_kind s ks ls)
  step_kept (s_filter from cond) locals ls g =
      then_found (IsBagOf (ev from row locals)) (IsOf (step_value (s_filter from cond) row locals)) (filtered_kind cond)
      (λ rows i. filtered_kept (step_value (s_filter from cond) row locals) rows
      (bag_of_rows rows (ev from row locals) (filter (passes cond)) (λ rs j. rows_of-filter rows (passes cond) rs j) i) (expr_kind cond rows []))
      (bag_rows from ks ls) (bag_rows_kept from locals ls g)
  step_kept (s_order from keys) locals ls g =
      then_found (IsBagOf (ev from row locals)) (IsOf (step_value (s_order from keys) row locals)) (sorted_kind keys)
      (λ rows i. tested (IsOf (step_value (s_order from keys) row locals)) (are_keys rows keys) (Some (k_bag (kinds_of rows)))
      (λ e. bag_from_rows rows (ev from row locals) (λ rs. v_listed (tuples_of (sort (keys_cmp keys) rs))) (λ rs j. sort_kept keys rows rs j) i))
      (bag_rows from ks ls) (bag_rows_kept from locals ls g)
  step_kept (s_limit from count) locals ls g =
      kind_kept (ev from row locals) (step_value (s_limit from count) row locals) (bag_rows from ks ls)
      (λ rows i. bag_of_rows rows (ev from row locals) (take count) (λ rs j. rows_of-take rows count rs j) i) (bag_rows_kept from locals ls g)
  step_kept (s_distinct from) locals ls g =
      kind_kept (ev from row locals) (step_value (s_distinct from) row locals) (bag_rows from ks ls)
      (λ rows i. bag_from_rows rows (ev from row locals) (λ rs. v_bag (tuples_of (distinct row_cmp rs))) (λ rs j. distinct_kept rows rs j) i) (bag_rows_kept from locals ls g)
  step_kept (s_take from) locals ls g =
      kind_kept (ev from row locals) (ev from row locals) (bag_rows from ks ls) (λ rows i. i) (bag_rows_kept from locals ls g)

  steps_kept : (steps : List TypedStep) (locals : List Tree) (ls : List KindTree) → IsRowOf locals ls → OfRead (IsRowOf (steps_values steps row locals)) (steps_kinds steps ks ls)
  steps_kept [] locals ls g = g
  steps_kept (s ∷ steps) locals ls g =
      then_found (IsOf (step_value s row locals)) (IsRowOf (steps_values (s ∷ steps) row locals)) (λ k. steps_kinds steps ks (ls ++ k ∷ []))
      (λ k i. steps_kept steps (locals ++ step_value s row locals ∷ []) (ls ++ k ∷ []) (row_of-append locals (step_value s row locals ∷ []) ls (k ∷ []) g (i, tt)))
      (step_kind s ks ls) (step_kept s locals ls g)

-- ---- items

as_wide : (kinds : List KindTree) (width : ℕ) → length kinds ≡ width → AreRowsOf (replicate width v_null ∷ []) kinds
as_wide kinds width e = (subst (λ n. IsRowOf (replicate n v_null) kinds) e (row_of_nulls kinds), tt)

flattened_kept : (width : ℕ) (k : KindTree) (v : Tree) → IsOf v k → OfRead (λ kinds. length kinds ≡ width → AreRowsOf (flattened width v) kinds) (flattened_kinds k)
flattened_kept width (k_tuple ks) v_null h = λ e. as_wide (kinds_list ks) width e
flattened_kept width (k_tuple ks) (v_tuple vs) h = λ e. (fields_listed vs ks h, tt)
flattened_kept width (k_tuple ks) v h = absurd h
flattened_kept width (k_bag ks) v_null h = λ e. as_wide (kinds_list ks) width e
flattened_kept width (k_bag ks) (v_bag rs) h = λ e. tuples_listed rs ks h
flattened_kept width (k_bag ks) (v_listed rs) h = λ e. tuples_listed rs ks h
flattened_kept width (k_bag ks) v h = absurd h
flattened_kept width (k_map k) v h = tt
flattened_kept width k_boolean v_null h = λ e. as_wide (k_boolean ∷ []) width e
flattened_kept width k_boolean (v_bool b) h = λ e. ((tt, tt), tt)
flattened_kept width k_boolean v h = absurd h
flattened_kept width k_int v_null h = λ e. as_wide (k_int ∷ []) width e
flattened_kept width k_int (v_int z) h = λ e. ((tt, tt), tt)
flattened_kept width k_int v h = absurd h
flattened_kept width k_long v_null h = λ e. as_wide (k_long ∷ []) width e
flattened_kept width k_long (v_long z) h = λ e. ((tt, tt), tt)
flattened_kept width k_long v h = absurd h
flattened_kept width k_chars v_null h = λ e. as_wide (k_chars ∷ []) width e
flattened_kept width k_chars (v_chars text) h = λ e. ((tt, tt), tt)
flattened_kept width k_chars v h = absurd h
flattened_kept width k_bytes v_null h = λ e. as_wide (k_bytes ∷ []) width e
flattened_kept width k_bytes (v_bytes bytes) h = λ e. ((tt, tt), tt)
flattened_kept width k_bytes v h = absurd h

given_kept : (flatten : Bool) (width : ℕ) (k : KindTree) (v : Tree) → IsOf v k
    → OfRead (λ kinds. length kinds ≡ width → AreRowsOf (if flatten then flattened width v else (v ∷ []) ∷ []) kinds) (given_kinds flatten k)
given_kept true width k v h = flattened_kept width k v h
given_kept false width k v h = λ e. ((h, tt), tt)

item_kept : (item : TypedItem) (k : KindTree) (v : Tree) → IsOf v k
    → OfRead (AreRowsOf (if item.flatten then flattened item.width v else (v ∷ []) ∷ [])) (option_and_then (of_width item.width) (given_kinds item.flatten k))
item_kept item k v h =
    then_found (λ kinds. length kinds ≡ item.width → AreRowsOf (if item.flatten then flattened item.width v else (v ∷ []) ∷ []) kinds)
    (AreRowsOf (if item.flatten then flattened item.width v else (v ∷ []) ∷ [])) (of_width item.width)
    (λ kinds i. tested (AreRowsOf (if item.flatten then flattened item.width v else (v ∷ []) ∷ [])) (length kinds == item.width) (Some kinds) (λ e. i (eqb-true (length kinds) item.width e)))
    (given_kinds item.flatten k) (given_kept item.flatten item.width k v h)

-- ---- joinings

before_kept : (ks ls : List KindTree) (x : List Tree) (ys : List (List Tree)) → IsRowOf x ks → AreRowsOf ys ls → AreRowsOf (map (λ y. x ++ y) ys) (ks ++ ls)
before_kept ks ls x [] h g = tt
before_kept ks ls x (y ∷ ys) h g = (row_of-append x y ks ls h g.0, before_kept ks ls x ys h g.1)

pub joined_kept : (ks ls : List KindTree) (xs ys : List (List Tree)) → AreRowsOf xs ks → AreRowsOf ys ls → AreRowsOf (joined xs ys) (ks ++ ls)
joined_kept ks ls [] ys h g = tt
joined_kept ks ls (x ∷ xs) ys h g = rows_of-append (ks ++ ls) (map (λ y. x ++ y) ys) (joined xs ys) (before_kept ks ls x ys h.0 g) (joined_kept ks ls xs ys h.1 g)

module _ (functions : FunctionsKeepKinds) (row : List Tree) (ks : List KindTree) (h : IsRowOf row ks) where
  items_kept : (items : List TypedItem) (locals : List Tree) (ls : List KindTree) → IsRowOf locals ls
      → OfRead (AreRowsOf (product (map (λ item. item_lists item row locals) items))) (items_kinds items ks ls)
  items_kept [] locals ls g = (tt, tt)
  items_kept (item ∷ items) locals ls g =
      then_found (AreRowsOf (item_lists item row locals)) (AreRowsOf (product (map (λ item. item_lists item row locals) (item ∷ items)))) _
      (λ kinds i. then_found (AreRowsOf (product (map (λ item. item_lists item row locals) items))) (AreRowsOf (product (map (λ item. item_lists item row locals) (item ∷ items))))
      (λ more. Some (kinds ++ more)) (λ more j. joined_kept kinds more (item_lists item row locals) (product (map (λ item. item_lists item row locals) items)) i j)
      (items_kinds items ks ls) (items_kept items locals ls g))
      (item_kinds item ks ls)
      (then_found (IsOf (ev item.value row locals)) (AreRowsOf (item_lists item row locals)) _ (λ k i. item_kept item k (ev item.value row locals) i)
      (expr_kind item.value ks ls) (kept functions row locals ks ls h g item.value))

  pub block_kept : (block : TypedBlock) → OfRead (AreRowsOf (foreach_rows block row)) (row_kinds block ks)
  block_kept block =
      then_found (IsRowOf (steps_values block.steps row [])) (AreRowsOf (foreach_rows block row)) (λ ls. items_kinds block.items ks ls)
      (λ ls g. items_kept block.items (steps_values block.steps row []) ls g) (steps_kinds block.steps ks []) (steps_kept functions row ks h block.steps [] [] tt)
