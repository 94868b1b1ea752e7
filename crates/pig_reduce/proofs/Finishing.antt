-- The parts of a key are finished column by column, and groups one by one.
use Rattle.std.proofs.Common.{◌≡◌, ◌+◌, ◌==◌, ℕ, true, false, List, [], ◌∷◌, ◌++◌, map, drop, refl, sym, ◌∙◌, ap, subst, arith, rules, append_assoc}
use Rattle.std.specs.Prelude.{ℤ, Bool, Option, Some, None, ⊤, cond, option_map, slice_get}
use Rattle.std.specs.Int.{w64}
use Rattle.std.specs.List.{AllByRecursion, filter, filter_map, flat_map}
use Rattle.std.specs.List.Sorted.{IsPermutation}
use Rattle.std.specs.Option.{option_and_then, unwrap_or}
use Rattle.std.specs.Ordering.{is_eq}
use Rattle.std.proofs.lemmas.Int.{SFits-int_wrap}
use Rattle.std.proofs.lemmas.List.{map-append}
use Rattle.std.proofs.lemmas.List.Sorted.{IsPermutation-map, IsPermutation-sym}
use Rattle.pig_value.specs.declared.functions.Function.{Function}
use Rattle.pig_value.specs.declared.functions.Function.TheVariants as f
use Rattle.pig_value.specs.declared.operators.Dir.{Dir}
use Rattle.pig_value.specs.declared.operators.Dir.TheVariants as dir
use Rattle.pig_value.specs.FieldReader.{all_of}
use Rattle.pig_value.specs.Functions.{column_tree, first_found, is_ranked, sum_found, whole_of}
use Rattle.pig_value.specs.Gathering.{Entry, with_key}
use Rattle.pig_value.specs.Orders.{bag_of, dir_cmp, row_cmp, tree_cmp}
use Rattle.pig_value.specs.Sorts.{Ascends, distinct, sort}
use Rattle.pig_value.specs.declared.values.Value.{Value}
use Rattle.pig_value.specs.Trees.{Tree, at, or_null, row_tree, rows_tree, tree}
use Rattle.pig_value.specs.Valid.{AreRows, IsRow, IsValue}
use Rattle.pig_value.proofs.OrderLaws.{tree_same, tree_total}
use Rattle.pig_value.proofs.ValidLaws.{row_each, row_from_each, rows_each, valid_field, valid_rows-append}
use Rattle.pig_value.proofs.list_laws.Bags.{each-sort, sort_permutes}
use Rattle.pig_value.proofs.list_laws.Indexing.{drop-add, dropped, get-drop, get_map, some_at}
use Rattle.pig_value.proofs.list_laws.Listing.{each-append, each-filter, each-map, each_at, each_of_all, each_weaker, filter_all, flat_map_each}
use Rattle.pig_value.proofs.list_laws.Partitions.{by_key_permuted}
use Rattle.pig_builtins.specs.Folds.{is_algebraic}
use Rattle.pig_builtins.proofs.Merging.{in_any_order}
use Rattle.pig_typed.specs.Evaluation.{ev}
use Rattle.pig_typed.specs.Literals.{LiteralsAre}
use Rattle.pig_typed.specs.Typed.{Typed, TypedBlock, TypedItem, TypedStep, x_call, x_field, x_project}
use Rattle.pig_algebra.specs.Combining.{finished, folded}
use Rattle.pig_algebra.specs.Cuts.{TypedCut, c_key, c_part, c_row, cut_of, cut_of_arg, cut_of_bag, cut_typed, cuts_after, cuts_in, cuts_of, is_of_field, only_arg, part_cut}
use Rattle.pig_algebra.specs.declared.cuts.Cut.{Cut}
use Rattle.pig_algebra.specs.Parts.{merging}
use Rattle.pig_plan.specs.ByKey.{rows_of}
use Rattle.pig_runs.specs.Entries.{InDirections, run_cmp}
use Rattle.pig_operators.specs.Groups.{IsGroup, IsInput, bags_at, first_key, rows_at}
use Rattle.pig_operators.proofs.Inputs.{input_rows, remains_all}
use Rattle.pig_operators.proofs.Stretches.{gathered_group, group_sorted, sorted_out}
use Rattle.pig_reduce.specs.Made.{AreOfFirst, IsKeyed, fold_made, folds_to_come, item_at, places_of}

abbrev Rows : Type 0
Rows = List (List Tree)

-- ---- items of values

pub valid_at : (row : List Tree) (i : ℕ) → IsRow row → IsValue (at i row)
valid_at row i h = of_found (slice_get row i) (λ v found. valid_field row i v found h)
  where
    of_found : (o : Option Tree) → ((v : Tree) → o ≡ Some v → IsValue v) → IsValue (or_null o)
    of_found None k = tt
    of_found (Some v) k = k v refl

sum_valid : (zs : List ℤ) → IsValue (or_null (sum_found zs))
sum_valid [] = tt
sum_valid (z ∷ zs) = SFits-int_wrap w64 _

first_valid : (d : Dir) (vs : List Tree) → AllByRecursion IsValue vs → IsValue (or_null (first_found d vs))
first_valid d vs h =
    let ranked = sort (dir_cmp d) (filter is_ranked vs) in
    of_first (slice_get ranked 0)
    (λ v is. each_at IsValue ranked 0 v is (each-sort (dir_cmp d) IsValue (filter is_ranked vs) (each-filter is_ranked IsValue vs h)))
  where
    of_first : (o : Option Tree) → ((v : Tree) → o ≡ Some v → IsValue v) → IsValue (or_null o)
    of_first None k = tt
    of_first (Some v) k = k v refl

column_valid : (function : Function) (vs : List Tree) → AllByRecursion IsValue vs → IsValue (column_tree function vs)
column_valid f.Count vs h = SFits-int_wrap w64 _
column_valid f.CountStar vs h = SFits-int_wrap w64 _
column_valid f.Sum vs h = sum_valid (filter_map whole_of vs)
column_valid f.Min vs h = first_valid dir.Asc vs h
column_valid f.Max vs h = first_valid dir.Desc vs h
column_valid function vs h = tt

pub parts_valid : (function : Function) (place : ℕ) (rows : Rows) → AreRows rows → IsValue (column_tree function (map (at place) rows))
parts_valid function place rows h = column_valid function (map (at place) rows)
    (each-map IsValue (at place) rows (each_weaker IsRow (λ row. IsValue (at place row)) (λ row k. valid_at row place k) rows (rows_each rows h)))

-- an item that is the key, or a projection of it, writes out nothing
field_literals : (e : Typed) → is_of_field 0 e ≡ true → LiteralsAre IsValue e
field_literals (x_field m) h = tt
field_literals (x_project (x_field m) fields single) h = tt
field_literals e h = absurd (cc)

abbrev IsSomeKeyed : Option TypedCut → Type 0
IsSomeKeyed None = ⊤
IsSomeKeyed (Some cut) = IsKeyed cut

either_keyed : (b : Bool) (o p : Option TypedCut) → (b ≡ true → IsSomeKeyed o) → IsSomeKeyed p → IsSomeKeyed (cond b o p)
either_keyed true o p h k = h refl
either_keyed false o p h k = k

bag_keyed : (function : Function) (e : Typed) → IsSomeKeyed (cut_of_bag function e)
bag_keyed function (x_field n) = either_keyed (n == 1) (Some (c_part function None)) None (λ e. tt) tt
bag_keyed function (x_project (x_field n) fields single) = either_keyed (n == 1) (Some (c_part function (Some fields))) None (λ e. tt) tt
bag_keyed function e = tt

arg_keyed : (function : Function) (o : Option Typed) → IsSomeKeyed (cut_of_arg function o)
arg_keyed function None = tt
arg_keyed function (Some bag) = either_keyed (is_algebraic function) (cut_of_bag function bag) None (λ e. bag_keyed function bag) tt

part_keyed : (e : Typed) → IsSomeKeyed (part_cut e)
part_keyed (x_call function args) = arg_keyed function (only_arg args)
part_keyed e = tt

item_keyed : (item : TypedItem) → IsSomeKeyed (cut_of item)
item_keyed item =
    either_keyed item.flatten None (cond (is_of_field 0 item.value) (Some (c_key item.value)) (part_cut item.value)) (λ e. tt)
    (either_keyed (is_of_field 0 item.value) (Some (c_key item.value)) (part_cut item.value) (field_literals item.value) (part_keyed item.value))

abbrev AreSomeKeyed : Option (List TypedCut) → Type 0
AreSomeKeyed None = ⊤
AreSomeKeyed (Some cuts) = AllByRecursion IsKeyed cuts

items_keyed : (items : List TypedItem) → AreSomeKeyed (all_of cut_of items)
items_keyed [] = tt
items_keyed (item ∷ items) = both (cut_of item) (all_of cut_of items) (item_keyed item) (items_keyed items)
  where
    both : (y : Option TypedCut) (ys : Option (List TypedCut)) → IsSomeKeyed y → AreSomeKeyed ys
        → AreSomeKeyed (option_and_then (λ z. option_map (λ zs. z ∷ zs) ys) y)
    both None ys a b = tt
    both (Some y) None a b = tt
    both (Some y) (Some ys) a b = (a, b)

steps_keyed : (steps : List TypedStep) (items : List TypedItem) → AreSomeKeyed (cuts_after steps items)
steps_keyed [] items = items_keyed items
steps_keyed (step ∷ steps) items = tt

or_none : (o : Option (List TypedCut)) → AreSomeKeyed o → AllByRecursion IsKeyed (unwrap_or o [])
or_none None h = tt
or_none (Some cuts) h = h

pub cuts_keyed : (block : TypedBlock) (cuts : List TypedCut) → cuts ≡ cuts_in block → AllByRecursion IsKeyed cuts
cuts_keyed block cuts is = subst (AllByRecursion IsKeyed) (sym is) (or_none (cuts_of block) (steps_keyed block.steps block.items))

pub keyed_at : (cuts : List Cut) (i : ℕ) (cut : Cut) → slice_get cuts i ≡ Some cut → AllByRecursion IsKeyed (map cut_typed cuts) → IsKeyed (cut_typed cut)
keyed_at cuts i cut here h = each_at IsKeyed (map cut_typed cuts) i (cut_typed cut) (get_map cut_typed cuts i ∙ ap (option_map cut_typed) here) h

-- ---- items in turn

none_dropped : (rows : Rows) → map (drop 0) rows ≡ rows
none_dropped [] = refl
none_dropped (row ∷ rows) = λ i. row ∷ none_dropped rows i

first_dropped : (n : ℕ) (rows : Rows) → map (at 0) (map (drop n) rows) ≡ map (at n) rows
first_dropped n [] = refl
first_dropped n (row ∷ rows) =
    let same : n + 0 ≡ n = omega arith in
    let here : at 0 (drop n row) ≡ at n row = ap or_null (get-drop row n 0 ∙ ap (slice_get row) same) in
    λ i. here i ∷ first_dropped n rows i

one_dropped : (n : ℕ) (rows : Rows) → map (drop 1) (map (drop n) rows) ≡ map (drop (n + 1)) rows
one_dropped n [] = refl
one_dropped n (row ∷ rows) = λ i. drop-add row n 1 i ∷ one_dropped n rows i

finish_one : (cut : TypedCut) (cuts : List TypedCut) (key : Tree) (rows : Rows) (n : ℕ)
    → finished (cut ∷ cuts) key (map (drop n) rows) ≡ item_at cut (key ∷ []) rows n ∷ finished cuts key (map (drop (n + places_of cut)) rows)
finish_one (c_key e) cuts key rows n = let same : n ≡ n + 0 = omega arith in λ i. ev e (key ∷ []) [] ∷ finished cuts key (map (drop (same i)) rows)
finish_one (c_part function columns) cuts key rows n = λ i. column_tree (merging function) (first_dropped n rows i) ∷ finished cuts key (one_dropped n rows i)
finish_one c_row cuts key rows n = λ i. key ∷ finished cuts key (one_dropped n rows i)

pub begins_all : (cuts : List Cut) (key : Tree) (rows : Rows) → finished (map cut_typed cuts) key (map (drop 0) rows) ≡ finished (map cut_typed cuts) key rows
begins_all cuts key rows = ap (finished (map cut_typed cuts) key) (none_dropped rows)

-- the item of one more cut
pub item_more : (cuts : List Cut) (at_cut : ℕ) (cut : Cut) (key : Tree) (keyed : List Tree) (rows : Rows) (row new : List Value) (v : Value)
    (place next : ℕ) (all : List Tree)
    → slice_get cuts at_cut ≡ Some cut → keyed ≡ key ∷ [] → tree v ≡ item_at (cut_typed cut) keyed rows place → next ≡ place + places_of (cut_typed cut)
    → new ≡ row ++ v ∷ []
    → row_tree row ++ finished (map cut_typed (drop at_cut cuts)) key (map (drop place) rows) ≡ all
    → row_tree new ++ finished (map cut_typed (drop (at_cut + 1) cuts)) key (map (drop next) rows) ≡ all
item_more cuts at_cut cut key keyed rows row new v place next all here alone is behind added so_far =
    let more = map cut_typed (drop (at_cut + 1) cuts) in
    let rest = finished more key (map (drop next) rows) in
    let item : tree v ≡ item_at (cut_typed cut) (key ∷ []) rows place = is ∙ ap (λ k. item_at (cut_typed cut) k rows place) alone in
    ap (λ l. row_tree l ++ rest) added
    ∙ (ap (λ l. l ++ rest) (map-append tree row (v ∷ []))
    ∙ (append_assoc (row_tree row) (tree v ∷ []) rest
    ∙ (ap (λ l. row_tree row ++ l)
    ((λ i. item i ∷ finished more key (map (drop (behind i)) rows))
    ∙ (sym (finish_one (cut_typed cut) more key rows place)
    ∙ ap (λ cs. finished (map cut_typed cs) key (map (drop place) rows)) (sym (dropped cuts at_cut cut here))))
    ∙ so_far)))

pub row_valid : (row new : List Value) (v : Value) → new ≡ row ++ v ∷ [] → IsRow (row_tree row) → IsValue (tree v) → IsRow (row_tree new)
row_valid row new v added h k =
    subst (λ l. IsRow (row_tree l)) (sym added)
    (subst IsRow (sym (map-append tree row (v ∷ [])))
    (row_from_each (row_tree row ++ tree v ∷ []) (each-append IsValue (row_tree row) (tree v ∷ []) (row_each (row_tree row) h) (k, tt))))

pub rows_valid : (rows new : List (List Value)) (row : List Value) → new ≡ rows ++ row ∷ [] → AreRows (rows_tree rows) → IsRow (row_tree row)
    → AreRows (rows_tree new)
rows_valid rows new row added h k =
    subst (λ l. AreRows (rows_tree l)) (sym added)
    (subst AreRows (sym (map-append row_tree rows (row ∷ []))) (valid_rows-append (rows_tree rows) (row_tree row ∷ []) h (k, tt)))

-- ---- groups in turn

-- where all entries are of the first input, their rows are that input's bag
module _ (run : InDirections) (from end : ℕ) (group : IsGroup run from end) (up : ∥ Ascends (run_cmp run.dirs) run.entries ∥₁)
    (first : AreOfFirst run.entries) where
  all_first : IsInput run from end 0 end
  all_first = record {
    order = let low = group.some in omega (arith, low);
    within = omega arith;
    same = λ k low high.
        let found = some_at run.entries k (let top = group.within in omega (arith, high, top)) in
        ap (option_map (λ e. e.input)) found.1 ∙ ap Some (each_at (λ e. e.input ≡ 0) run.entries k found.0 found.1 first);
    other = λ low. absurd (omega (arith, low));
  }

  bag_is_rows : bags_at run from end 0 ≡ rows_at run from end
  bag_is_rows = input_rows run from from end 0 end (remains_all run.entries from end (let low = group.some in omega (arith, low))) all_first
      (group_sorted run from end group up)

  pub fold_first : (cuts : List TypedCut) → run.dirs ≡ [] → (old new : Rows) → new ≡ old ++ finished cuts (first_key run from) (rows_at run from end) ∷ []
      → old ++ folds_to_come cuts run from ≡ new ++ folds_to_come cuts run end
  fold_first cuts none old new is =
      let here : Rows = finished cuts (first_key run from) (rows_at run from end) ∷ [] in
      let rest = folds_to_come cuts run end in
      ap (λ l. old ++ l)
      (gathered_group run from end group (sorted_out run.dirs run.entries up) (fold_made cuts) none
      ∙ ap (λ rows. finished cuts (first_key run from) rows ∷ rest) bag_is_rows)
      ∙ (sym (append_assoc old here rest) ∙ ap (λ l. l ++ rest) (sym is))

-- ---- the groups of entries, in any order

-- parts are finished in any order
finished_permuted : (cuts : List TypedCut) (key : Tree) (ps qs : Rows) → IsPermutation ps qs → finished cuts key ps ≡ finished cuts key qs
finished_permuted [] key ps qs h = refl
finished_permuted (c_key e ∷ cuts) key ps qs h = λ i. ev e (key ∷ []) [] ∷ finished_permuted cuts key ps qs h i
finished_permuted (c_row ∷ cuts) key ps qs h = λ i. key ∷ finished_permuted cuts key (map (drop 1) ps) (map (drop 1) qs) (IsPermutation-map (drop 1) ps qs h) i
finished_permuted (c_part function columns ∷ cuts) key ps qs h = λ i.
    or_null (in_any_order (merging function) (map (at 0) ps) (map (at 0) qs) (IsPermutation-map (at 0) ps qs h) i)
    ∷ finished_permuted cuts key (map (drop 1) ps) (map (drop 1) qs) (IsPermutation-map (drop 1) ps qs h) i

abbrev row_in : Entry → List Tree
row_in e = e.row

pub folded_permuted : (block : TypedBlock) (us vs : List Entry) → IsPermutation us vs → folded block us ≡ folded block vs
folded_permuted block us vs h =
    by_key_permuted tree_cmp tree_total tree_same (λ e. e.key) (λ k es. finished (cuts_in block) k (map row_in es) ∷ [])
    (λ k gs hs q. ap (λ row. row ∷ []) (finished_permuted (cuts_in block) k (map row_in gs) (map row_in hs) (IsPermutation-map row_in gs hs q))) us vs h

same_test : (i j : ℕ) → i ≡ j → (i == j) ≡ true
same_test i j h = search rules

-- the bag of the first input is that of all rows
first_bag : (es : List Entry) → AreOfFirst es → rows_of es 0 ≡ bag_of (map row_in es)
first_bag es h = ap (λ l. bag_of (map row_in l))
    (filter_all (λ e. e.input == 0) es (each_weaker (λ e. e.input ≡ 0) (λ e. (e.input == 0) ≡ true) (λ e k. same_test e.input 0 k) es h))

fold_of_key : (cuts : List TypedCut) (key : Tree) (es : List Entry) → AreOfFirst es → fold_made cuts key (rows_of es) ≡ finished cuts key (map row_in es) ∷ []
fold_of_key cuts key es h =
    ap (λ rows. finished cuts key rows ∷ []) (first_bag es h)
    ∙ ap (λ row. row ∷ [])
    (finished_permuted cuts key (bag_of (map row_in es)) (map row_in es)
    (IsPermutation-sym (map row_in es) (bag_of (map row_in es)) (sort_permutes row_cmp (map row_in es))))

pub folds_are : (block : TypedBlock) (cuts : List TypedCut) (run : InDirections) → cuts ≡ cuts_in block → AreOfFirst run.entries
    → folds_to_come cuts run 0 ≡ folded block run.entries
folds_are block cuts run is h =
    let es = run.entries in
    flat_map_each (λ k. fold_made cuts k (rows_of (with_key tree_cmp (λ e. e.key) k es)))
    (λ k. finished cuts k (map row_in (with_key tree_cmp (λ e. e.key) k es)) ∷ [])
    (distinct tree_cmp (map (λ e. e.key) es))
    (each_of_all _ (λ k. fold_of_key cuts k (with_key tree_cmp (λ e. e.key) k es) (each-filter (λ e. is_eq (tree_cmp e.key k)) (λ e. e.input ≡ 0) es h))
    (distinct tree_cmp (map (λ e. e.key) es)))
    ∙ ap (λ cs. flat_map (λ k. finished cs k (map row_in (with_key tree_cmp (λ e. e.key) k es)) ∷ []) (distinct tree_cmp (map (λ e. e.key) es))) is
