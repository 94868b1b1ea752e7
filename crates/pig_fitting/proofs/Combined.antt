-- The entries that a task combines fit their node.
use Rattle.std.specs.Prelude.{◌≡◌, ◌==◌, ℕ, zero, suc, Bool, true, false, List, [], ◌∷◌, map, Option, Some, None, slice_get, refl, ⊤, if◌then◌else◌}
use Rattle.std.proofs.Common.{ap, sym, ◌∙◌, arith, subst, append-nil, true≢false}
use Rattle.std.specs.List.{AllByRecursion}
use Rattle.std.specs.Option.{is_some, option_and_then, option_map, option_map_or, unwrap_or}
use Rattle.pig_value.specs.FieldReader.{all_of}
use Rattle.pig_value.specs.Functions.{bag_tree, looked_at}
use Rattle.pig_value.specs.Gathering.{Entry, with_key}
use Rattle.pig_value.specs.Kinds.{AreRowsOf, IsOf, IsRowOf}
use Rattle.pig_value.specs.Orders.{tree_cmp}
use Rattle.pig_value.specs.Results.{◌>>=◌}
use Rattle.pig_value.specs.Sorts.{distinct}
use Rattle.pig_value.specs.Trees.{Tree, k_bag, k_chars, k_tuple, kinds_of}
use Rattle.pig_value.specs.declared.functions.Function.{Function}
use Rattle.pig_value.proofs.KindLaws.{rows_of_from_each, rows_of_sorted}
use Rattle.pig_value.proofs.OfRead.{OfRead, of_made}
use Rattle.pig_value.proofs.TreeLaws.{fields_back}
use Rattle.pig_value.proofs.list_laws.Distinct.{each-distinct}
use Rattle.pig_value.proofs.list_laws.Listing.{each-filter, each-map, each_weaker, some_same}
use Rattle.pig_typed.specs.Blocks.{foreach_rows}
use Rattle.pig_typed.specs.BlockKinds.{row_kinds}
use Rattle.pig_typed.specs.Premises.{FunctionsKeepKinds}
use Rattle.pig_typed.specs.Typed.{Typed, TypedBlock, TypedItem, TypedStep, x_call, x_field, x_project}
use Rattle.pig_typed.proofs.BlocksKept.{block_kept}
use Rattle.pig_typed.proofs.Found.{found_is, of_found, tested, then_found}
use Rattle.pig_builtins.specs.Folds.{is_algebraic}
use Rattle.pig_algebra.specs.Combining.{PartsFinishToTheRow, combined, finished, parts_by, parts_of_rows, seen_in}
use Rattle.pig_algebra.specs.Cuts.{TypedCut, c_key, c_part, c_row, cut_of, cut_of_arg, cut_of_bag, cuts_after, cuts_in, cuts_of, is_of_field, only_arg}
use Rattle.pig_algebra.specs.Cuts.{part_cut}
use Rattle.pig_algebra.specs.PartLaws.{column_part}
use Rattle.pig_plan.proofs.Carries.{each-flat_map}
use Rattle.pig_plan.specs.Entries.{entries_of, key_at}
use Rattle.pig_plan.specs.NodeKinds.{KeyedKinds, RowKinds, group_kind, group_kinds, key_kinds, keys_agree, kinds_at, node_gives, only_if}
use Rattle.pig_plan.specs.Nodes.{inputs_of, op_at}
use Rattle.pig_plan.specs.Plans.{Keyed, Plan, PlanOp, p_distinct, p_group, p_group_all}
use Rattle.pig_plan.specs.Valid.{IsPlan}
use Rattle.pig_physical.specs.Combining.{folds}
use Rattle.pig_physical.specs.Fitting.{ArePartsOf, EntryFits, FinishesTo, IsFoldedRow, given_kinds, key_kind_at}
use Rattle.pig_physical.specs.Values.{key_row}
use Rattle.pig_waves.proofs.Folders.{folds_is, none_folds_at}
use Rattle.pig_fitting.proofs.Entries.{key_fits}
use Rattle.pig_fitting.proofs.Given.{given_unfolded, kinds_by}

-- ---- one entry for each key

module _ (K : Tree → Type 0) (P : List Tree → Type 0) where
  abbrev IsUnder : Entry → Type 0
  IsUnder e = K e.key × P e.row

  pub each_combined : (Q : Entry → Type 0) (parts : Tree → List (List Tree) → List Tree)
      → ((key : Tree) → K key → (rows : List (List Tree)) → AllByRecursion P rows → Q (record { key = key; input = 0; row = parts key rows }))
      → (entries : List Entry) → AllByRecursion IsUnder entries → AllByRecursion Q (combined parts entries)
  each_combined Q parts makes entries h =
      each-flat_map Q (λ key. record { key = key; input = 0; row = parts key (map (λ e. e.row) (with_key tree_cmp (λ e. e.key) key entries)) } ∷ [])
      (distinct tree_cmp (map (λ e. e.key) entries))
      (each_weaker K _
      (λ key ok. (
        makes key ok (map (λ e. e.row) (with_key tree_cmp (λ e. e.key) key entries))
            (each-map P (λ e. e.row) (with_key tree_cmp (λ e. e.key) key entries)
            (each_weaker IsUnder (λ e. P e.row) (λ e i. i.1) (with_key tree_cmp (λ e. e.key) key entries) (each-filter _ IsUnder entries h))),
        tt,
      ))
      (distinct tree_cmp (map (λ e. e.key) entries))
      (each-distinct tree_cmp K (map (λ e. e.key) entries) (each-map K (λ e. e.key) entries (each_weaker IsUnder (λ e. K e.key) (λ e i. i.0) entries h))))

-- ---- DISTINCT

same_is : (found : Option RowKinds) → unwrap_or (option_and_then (λ row. Some (Some row)) found) None ≡ found
same_is None = refl
same_is (Some row) = refl

-- a node that hands on rows of its input hands on their kinds
pub same_given : (plan : Plan) → IsPlan plan → (k input : ℕ) (o : PlanOp) → op_at plan k ≡ Some o → folds plan k ≡ None
    → node_gives (kinds_at plan) o ≡ option_and_then (λ row. Some (Some row)) (kinds_at plan input) → given_kinds plan k ≡ kinds_at plan input
same_given plan valid k input o at none same =
    given_unfolded plan k none ∙ kinds_by plan valid k o at ∙ ap (λ given. unwrap_or given None) same ∙ same_is (kinds_at plan input)

module _ (plan : Plan) (valid : IsPlan plan) (k input : ℕ) (at : op_at plan k ≡ Some (p_distinct input)) where
  abbrev IsDistinctKey : Tree → Type 0
  IsDistinctKey key = OfRead (λ ks. IsRowOf (key_row key) ks × IsOf key (k_tuple (kinds_of ks))) (kinds_at plan input)

  distinct_entry : (key : Tree) → IsDistinctKey key → EntryFits plan k (p_distinct input) (record { key = key; input = 0; row = key ∷ [] })
  distinct_entry key ok = record {
    input = omega arith;
    key = λ kind found. found_is (IsOf key) (key_kind_at plan (p_distinct input) 0) kind found
        (of_made (λ ks. IsRowOf (key_row key) ks × IsOf key (k_tuple (kinds_of ks))) (IsOf key) (λ ks. k_tuple (kinds_of ks)) (λ ks h. h.1)
        (kinds_at plan input) ok);
    row = refl;
    gives = λ ks found. (found_is (λ ls. IsRowOf (key_row key) ls × IsOf key (k_tuple (kinds_of ls))) (kinds_at plan input) ks
        (sym (same_given plan valid k input (p_distinct input) at (none_folds_at plan k (p_distinct input) at refl) refl) ∙ found) ok).0;
  }

  pub distinct_fits : (i : ℕ) (rows : List (List Tree)) → AllByRecursion (λ row. OfRead (IsRowOf row) (kinds_at plan input)) rows
      → AllByRecursion (EntryFits plan k (p_distinct input)) (combined (λ key rows. key ∷ []) (entries_of (p_distinct input) i rows))
  distinct_fits i rows h =
      each_combined IsDistinctKey (λ row. ⊤) (EntryFits plan k (p_distinct input)) (λ key found. key ∷ []) (λ key ok found any. distinct_entry key ok)
      (entries_of (p_distinct input) i rows)
      (each-map (IsUnder IsDistinctKey (λ row. ⊤)) (λ row. record { key = key_at (p_distinct input) i row; input = i; row = row }) rows
      (each_weaker (λ row. OfRead (IsRowOf row) (kinds_at plan input)) _
      (λ row is. (
        of_found (λ ks. IsRowOf (key_row (key_at (p_distinct input) i row)) ks × IsOf (key_at (p_distinct input) i row) (k_tuple (kinds_of ks)))
            (kinds_at plan input)
            (λ ks found. let one : IsRowOf row ks = found_is (IsRowOf row) (kinds_at plan input) ks found is in
            (subst (λ r. IsRowOf r ks) (sym (fields_back row)) one, one)),
        tt,
      )) rows h))

-- ---- cuts

-- a function that folds
abbrev IsTaken : TypedCut → Type 0
IsTaken (c_key e) = ⊤
IsTaken (c_part function columns) = is_algebraic function ≡ true
IsTaken c_row = ⊤

bag_taken : (function : Function) → is_algebraic function ≡ true → (e : Typed) → OfRead IsTaken (cut_of_bag function e)
bag_taken function is (x_field n) = tested IsTaken (n == 1) (Some (c_part function None)) (λ t. is)
bag_taken function is (x_project (x_field n) fields single) = tested IsTaken (n == 1) (Some (c_part function (Some fields))) (λ t. is)
bag_taken function is e = tt

part_taken : (e : Typed) → OfRead IsTaken (part_cut e)
part_taken (x_call function args) = by_arg (only_arg args)
  where
    by_arg : (found : Option Typed) → OfRead IsTaken (cut_of_arg function found)
    by_arg None = tt
    by_arg (Some bag) = tested IsTaken (is_algebraic function) (cut_of_bag function bag) (λ is. bag_taken function is bag)
part_taken e = tt

item_taken : (item : TypedItem) → OfRead IsTaken (cut_of item)
item_taken item = by_tests item.flatten (is_of_field 0 item.value)
  where
    by_tests : (b c : Bool) → OfRead IsTaken (if b then None else (if c then Some (c_key item.value) else part_cut item.value))
    by_tests true c = tt
    by_tests false true = tt
    by_tests false false = part_taken item.value

items_taken : (items : List TypedItem) → OfRead (AllByRecursion IsTaken) (all_of cut_of items)
items_taken [] = tt
items_taken (item ∷ items) =
    then_found IsTaken (AllByRecursion IsTaken) (λ cut. option_map (λ cuts. cut ∷ cuts) (all_of cut_of items))
    (λ cut h. of_made (AllByRecursion IsTaken) (AllByRecursion IsTaken) (λ cuts. cut ∷ cuts) (λ cuts g. (h, g)) (all_of cut_of items) (items_taken items))
    (cut_of item) (item_taken item)

cuts_taken : (block : TypedBlock) → AllByRecursion IsTaken (cuts_in block)
cuts_taken block = by_found (cuts_of block) (by_steps block.steps)
  where
    by_steps : (steps : List TypedStep) → OfRead (AllByRecursion IsTaken) (cuts_after steps block.items)
    by_steps [] = items_taken block.items
    by_steps (step ∷ steps) = tt

    by_found : (found : Option (List TypedCut)) → OfRead (AllByRecursion IsTaken) found → AllByRecursion IsTaken (unwrap_or found [])
    by_found None h = tt
    by_found (Some cuts) h = h

parts_are : (cuts : List TypedCut) → AllByRecursion IsTaken cuts → (key : Tree) (rows : List (List Tree)) → ArePartsOf cuts (parts_by cuts key rows)
parts_are [] h key rows = tt
parts_are (c_key e ∷ cuts) h key rows = parts_are cuts h.1 key rows
parts_are (c_part function columns ∷ cuts) h key rows =
    (column_part function h.0 (map (looked_at function) (seen_in columns rows)), parts_are cuts h.1 key rows)
parts_are (c_row ∷ cuts) h key rows = parts_are cuts h.1 key rows

-- ---- a GROUP that folds

module _ (key : Tree) (rows : List (List Tree)) where
  abbrev IsGroupRow : RowKinds → Type 0
  IsGroupRow ks = IsRowOf (key ∷ bag_tree rows ∷ []) ks

  -- the key and the bag of its rows are of the GROUP's kinds
  all_grouped : (found : Option RowKinds) → IsOf key k_chars → AllByRecursion (λ row. OfRead (IsRowOf row) found) rows
      → OfRead IsGroupRow (unwrap_or (option_and_then (λ row. Some (Some (k_chars ∷ k_bag (kinds_of row) ∷ []))) found) None)
  all_grouped None is each = tt
  all_grouped (Some ks) is each = (is, (rows_of_sorted ks rows (rows_of_from_each ks rows each), tt))

  abbrev with_keys : RowKinds → RowKinds → KeyedKinds
  with_keys ks keys = record { row = ks; keys = keys }

  abbrev keyed_by : Keyed → Option RowKinds → Option KeyedKinds
  keyed_by input found = do
    row ← found
    keys ← key_kinds row input.keys
    Some (with_keys row keys)

  one_grouped : (input : Keyed) (found : Option RowKinds) → OfRead (IsOf key) (option_map (λ f. group_kind f.keys) (keyed_by input found))
      → AllByRecursion (λ row. OfRead (IsRowOf row) found) rows
      → OfRead IsGroupRow (unwrap_or (option_and_then (λ all. Some (Some (group_kinds all)))
      (option_and_then (λ all. only_if (keys_agree all) (Some all))
      (option_and_then (λ y. option_map (λ ys. y ∷ ys) (Some [])) (keyed_by input found)))) None)
  one_grouped input None is each = tt
  one_grouped input (Some ks) is each = by_keys (key_kinds ks input.keys) is
    where
      by_keys : (found : Option RowKinds)
          → OfRead (IsOf key) (option_map (λ (f : KeyedKinds). group_kind f.keys) (option_and_then (λ keys. Some (with_keys ks keys)) found))
          → OfRead IsGroupRow (unwrap_or (option_and_then (λ all. Some (Some (group_kinds all)))
          (option_and_then (λ all. only_if (keys_agree all) (Some all))
          (option_and_then (λ y. option_map (λ ys. y ∷ ys) (Some [])) (option_and_then (λ keys. Some (with_keys ks keys)) found)))) None)
      by_keys None h = tt
      by_keys (Some keys) h = (h, (rows_of_sorted ks rows (rows_of_from_each ks rows each), tt))

module _ (functions : FunctionsKeepKinds) (law : PartsFinishToTheRow) (plan : Plan) (valid : IsPlan plan) (k : ℕ) (block : TypedBlock)
    (found : folds plan k ≡ Some block) where
  cuts_are : cuts_of block ≡ Some (cuts_in block)
  cuts_are = by_found (cuts_of block) (folds_is plan k block found).2
    where
      by_found : (o : Option (List TypedCut)) → is_some o ≡ true → o ≡ Some (unwrap_or o [])
      by_found None h = absurd (true≢false (sym h))
      by_found (Some cuts) h = refl

  module _ (key : Tree) (rows : List (List Tree)) (grouped : OfRead (IsGroupRow key rows) (kinds_at plan k)) where
    finishes : foreach_rows block (key ∷ bag_tree rows ∷ []) ≡ finished (cuts_in block) key (parts_of_rows block key rows ∷ []) ∷ []
    finishes = ap (λ all. foreach_rows block (key ∷ bag_tree all ∷ [])) (sym (append-nil rows)) ∙ law block (cuts_in block) cuts_are key rows []

    abbrev IsFinished : RowKinds → Type 0
    IsFinished ks = IsRowOf (finished (cuts_in block) key (parts_of_rows block key rows ∷ [])) ks

    finished_is : OfRead IsFinished (option_and_then (row_kinds block) (kinds_at plan k))
    finished_is =
        then_found (IsGroupRow key rows) IsFinished (row_kinds block)
        (λ ks is. of_found IsFinished (row_kinds block ks)
        (λ given known. (subst (λ made. AreRowsOf made given) finishes
        (found_is (AreRowsOf (foreach_rows block (key ∷ bag_tree rows ∷ []))) (row_kinds block ks) given known
        (block_kept functions (key ∷ bag_tree rows ∷ []) ks is block))).0))
        (kinds_at plan k) grouped

    abbrev entry : Entry
    entry = record { key = key; input = 0; row = parts_of_rows block key rows }

    folded_row : (o : PlanOp) → IsFoldedRow (folds plan k) plan o entry
    folded_row o = subst (λ f. IsFoldedRow f plan o entry) (sym found) (parts_are (cuts_in block) (cuts_taken block) key rows)

    folded_gives : (ks : RowKinds) → given_kinds plan k ≡ Some ks → FinishesTo (folds plan k) ks entry
    folded_gives ks known =
        let given : given_kinds plan k ≡ option_and_then (row_kinds block) (kinds_at plan k) =
        ap (λ f. option_map_or (λ b. option_and_then (row_kinds b) (kinds_at plan k)) f (kinds_at plan k)) found in
        subst (λ f. FinishesTo f ks entry) (sym found)
        (found_is IsFinished (option_and_then (row_kinds block) (kinds_at plan k)) ks (sym given ∙ known) finished_is)

  pub all_fits : (input : ℕ) → op_at plan k ≡ Some (p_group_all input) → (i : ℕ) (rows : List (List Tree))
      → AllByRecursion (λ row. OfRead (IsRowOf row) (kinds_at plan input)) rows
      → AllByRecursion (EntryFits plan k (p_group_all input)) (combined (parts_of_rows block) (entries_of (p_group_all input) i rows))
  all_fits input at i rows h =
      each_combined (λ key. IsOf key k_chars) (λ row. OfRead (IsRowOf row) (kinds_at plan input)) (EntryFits plan k (p_group_all input)) (parts_of_rows block)
      (λ key is under each.
      let grouped : OfRead (IsGroupRow key under) (kinds_at plan k) =
      subst (OfRead (IsGroupRow key under)) (sym (kinds_by plan valid k (p_group_all input) at)) (all_grouped key under (kinds_at plan input) is each) in
      record {
        input = omega arith;
        key = λ kind known. found_is (IsOf key) (Some k_chars) kind known is;
        row = folded_row key under grouped (p_group_all input);
        gives = λ ks known. folded_gives key under grouped ks known;
      })
      (entries_of (p_group_all input) i rows)
      (each-map (IsUnder (λ key. IsOf key k_chars) (λ row. OfRead (IsRowOf row) (kinds_at plan input)))
      (λ row. record { key = key_at (p_group_all input) i row; input = i; row = row }) rows
      (each_weaker (λ row. OfRead (IsRowOf row) (kinds_at plan input)) _ (λ row is. (tt, is)) rows h))

  pub one_fits : (input : Keyed) → op_at plan k ≡ Some (p_group (input ∷ [])) → is_some (node_gives (kinds_at plan) (p_group (input ∷ []))) ≡ true
      → (i from : ℕ) → slice_get (inputs_of (p_group (input ∷ []))) i ≡ Some from → (rows : List (List Tree))
      → AllByRecursion (λ row. OfRead (IsRowOf row) (kinds_at plan from)) rows
      → AllByRecursion (EntryFits plan k (p_group (input ∷ []))) (combined (parts_of_rows block) (entries_of (p_group (input ∷ [])) i rows))
  one_fits input at some (suc i) from e rows h = absurd (cc)
  one_fits input at some zero from e rows h =
      let o : PlanOp = p_group (input ∷ []) in
      let there : AllByRecursion (λ row. OfRead (IsRowOf row) (kinds_at plan input.input)) rows =
      subst (λ n. AllByRecursion (λ row. OfRead (IsRowOf row) (kinds_at plan n)) rows) (sym (some_same input.input from e)) h in
      each_combined (λ key. OfRead (IsOf key) (key_kind_at plan (p_group (input ∷ [])) 0)) (λ row. OfRead (IsRowOf row) (kinds_at plan input.input))
      (EntryFits plan k (p_group (input ∷ []))) (parts_of_rows block)
      (λ key is under each.
      let grouped : OfRead (IsGroupRow key under) (kinds_at plan k) =
      subst (OfRead (IsGroupRow key under)) (sym (kinds_by plan valid k (p_group (input ∷ [])) at))
      (one_grouped key under input (kinds_at plan input.input) is each) in
      record {
        input = omega arith;
        key = λ kind known. found_is (IsOf key) (key_kind_at plan (p_group (input ∷ [])) 0) kind known is;
        row = folded_row key under grouped (p_group (input ∷ []));
        gives = λ ks known. folded_gives key under grouped ks known;
      })
      (entries_of (p_group (input ∷ [])) 0 rows)
      (each-map (IsUnder (λ key. OfRead (IsOf key) (key_kind_at plan (p_group (input ∷ [])) 0)) (λ row. OfRead (IsRowOf row) (kinds_at plan input.input)))
      (λ row. record { key = key_at (p_group (input ∷ [])) 0 row; input = 0; row = row }) rows
      (each_weaker (λ row. OfRead (IsRowOf row) (kinds_at plan input.input)) _
      (λ row is. (key_fits functions plan row (p_group (input ∷ [])) some 0 input.input refl is, is)) rows there))
