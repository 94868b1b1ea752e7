-- What a reduce task brings together of outputs that fit is rows of the kinds that its node hands on.
use Rattle.std.specs.Prelude.{◌≡◌, ◌<◌, ◌&&◌, ℕ, zero, suc, Bool, true, false, not, List, [], ◌∷◌, length, map, Option, Some, None, slice_get, refl}
use Rattle.std.proofs.Common.{ap, sym, ◌∙◌, arith, subst, true≢false}
use Rattle.std.specs.List.{AllByRecursion, flat_map, list_all}
use Rattle.std.specs.Option.{option_and_then, option_map, option_map_or}
use Rattle.std.proofs.lemmas.List.{length-map}
use Rattle.std.proofs.lemmas.Option.{slice_get_within}
use Rattle.pig_value.specs.FieldReader.{all_of}
use Rattle.pig_value.specs.Gathering.{Entry}
use Rattle.pig_value.specs.Kinds.{IsOf, IsRowOf}
use Rattle.pig_value.specs.Orders.{tree_cmp}
use Rattle.pig_value.specs.Sorts.{distinct, sort}
use Rattle.pig_value.specs.Trees.{KindTree, Tree, k_bag, k_chars, kinds_of}
use Rattle.pig_value.specs.declared.operators.Side.{Side}
use Rattle.pig_value.proofs.KindLaws.{rows_of_from_each}
use Rattle.pig_value.proofs.OfRead.{OfRead}
use Rattle.pig_value.proofs.list_laws.Bags.{each-sort}
use Rattle.pig_value.proofs.list_laws.Distinct.{each-distinct}
use Rattle.pig_value.proofs.list_laws.Indexing.{get_map, some_at}
use Rattle.pig_value.proofs.list_laws.Listing.{each-map, each_at, each_of_all, each_weaker, some_same}
use Rattle.pig_typed.specs.declared.blocks.SortKey.{SortKey}
use Rattle.pig_typed.specs.Premises.{FunctionsKeepKinds}
use Rattle.pig_typed.specs.Typed.{TypedBlock}
use Rattle.pig_typed.proofs.Found.{found_is, of_found, tested, then_found}
use Rattle.pig_algebra.specs.Combining.{folded}
use Rattle.pig_plan.proofs.Carries.{each-flat_map, each_gathered}
use Rattle.pig_plan.proofs.OfKinds.{Agree, Each, Held, all_are, first_keys, groups_made, have_first, joins_made, row_at}
use Rattle.pig_plan.specs.ByKey.{group_of}
use Rattle.pig_plan.specs.Entries.{dirs_of}
use Rattle.pig_plan.specs.Meaning.{width_at}
use Rattle.pig_plan.specs.NodeKinds.{KeyedKinds, RowKinds, all_keyed, group_kind, group_kinds, is_join, is_sorting, key_kinds, keyed_kinds, keys_agree}
use Rattle.pig_plan.specs.NodeKinds.{kinds_at, node_gives, only_if}
use Rattle.pig_plan.specs.Nodes.{is_boundary, is_sorted, op_at}
use Rattle.pig_plan.specs.Plans.{Keyed, Plan, PlanOp, p_load, p_filter, p_foreach, p_group_all, p_group, p_join, p_union, p_distinct, p_order, p_limit}
use Rattle.pig_plan.specs.Plans.{p_store, p_assert, p_rank}
use Rattle.pig_plan.specs.Valid.{IsPlan}
use Rattle.pig_runs.specs.Entries.{InDirections, run_cmp}
use Rattle.pig_physical.specs.Combining.{folds, groups_one}
use Rattle.pig_physical.specs.Fitting.{EntryFits, FinishesTo, Fits, GivesAlone, HasOutput, HasRows, HasRuns, HasWave, IsFoldedRow, IsInputRow, MapFits}
use Rattle.pig_physical.specs.Fitting.{RunFits, given_kinds, keyed_kind, kinds_brought}
use Rattle.pig_physical.specs.Outs.{Form, Outs, TaskOut, entries_at, o_rows, outs_at, rows_in, runs_in}
use Rattle.pig_physical.specs.Stages.{Stages, is_replicated, map_tasks, t_map, tasks_in, ways_into}
use Rattle.pig_physical.specs.Values.{IsReduceForm, brought_together, key_row, reduced}
use Rattle.pig_physical.specs.declared.parts.ReduceTask.{ReduceTask}
use Rattle.pig_physical.specs.declared.waves.WaveKind.TheVariants as kinds
use Rattle.pig_waves.specs.Laws.{ranks}
use Rattle.pig_waves.proofs.Among.{mapped_from}
use Rattle.pig_waves.proofs.Folders.{folds_is, none_folds_at}
use Rattle.pig_fitting.specs.Laws.{ReduceFormFits}
use Rattle.pig_fitting.proofs.Combined.{same_given}
use Rattle.pig_fitting.proofs.Finishing.{all_folded}
use Rattle.pig_fitting.proofs.Given.{Has, given_of, given_unfolded, kinds_by, rows_have}
use Rattle.pig_fitting.proofs.Going.{both_hold, found_of}
use Rattle.pig_fitting.proofs.Kept.{keeps_fit}
use Rattle.pig_fitting.proofs.Standing.{OfPartition, on_ways, reduces_alone, reduces_at}

-- ---- entries of inputs by key

first_at : (n j : ℕ) → j < 1 → slice_get (n ∷ []) j ≡ Some n
first_at n zero h = refl
first_at n (suc j) h = absurd (omega (arith, h))

-- the inputs whose keys agree are all that were found
agreed : (found : Option (List KeyedKinds)) (all : List KeyedKinds) → option_and_then (λ f. only_if (keys_agree f) (Some f)) found ≡ Some all
    → found ≡ Some all
agreed None all h = absurd (cc)
agreed (Some f) all h = by_test (keys_agree f) h
  where
    by_test : (b : Bool) → only_if b (Some f) ≡ Some all → Some f ≡ Some all
    by_test true g = g
    by_test false g = absurd (cc)

abbrev with_keys : RowKinds → RowKinds → KeyedKinds
with_keys ks keys = record { row = ks; keys = keys }

-- an input by key has the kinds of its rows
keyed_row : (found : Option RowKinds) (input : Keyed) (kinds : KeyedKinds)
    → option_and_then (λ row. option_and_then (λ keys. Some (with_keys row keys)) (key_kinds row input.keys)) found ≡ Some kinds
    → found ≡ Some kinds.row
keyed_row None input kinds h = absurd (cc)
keyed_row (Some row) input kinds h = by_keys (key_kinds row input.keys) h
  where
    by_keys : (keys : Option RowKinds) → option_and_then (λ ks. Some (with_keys row ks)) keys ≡ Some kinds → Some row ≡ Some kinds.row
    by_keys None g = absurd (cc)
    by_keys (Some ks) g = ap (option_map (λ (f : KeyedKinds). f.row)) g

module _ (functions : FunctionsKeepKinds) (plan : Plan) where
  abbrev Agrees : List Keyed → List KeyedKinds → Type 0
  Agrees inputs found = Agree functions (kinds_at plan) (width_at plan) (λ i. []) inputs found

  abbrev IsFound : List Keyed → List KeyedKinds → Type 0
  IsFound inputs found = Agrees inputs found × (all_keyed (kinds_at plan) inputs ≡ Some found)

  held_each : (inputs : List ℕ) → AllByRecursion (Held functions (kinds_at plan) (width_at plan) (λ i. [])) inputs
  held_each inputs =
      each_of_all (Held functions (kinds_at plan) (width_at plan) (λ i. []))
      (λ i. of_found (λ ks. Each ks [] × (width_at plan i ≡ length ks)) (kinds_at plan i) (λ ks found. (tt, ap (λ o. option_map_or length o 0) found))) inputs

  all_found : (inputs : List Keyed) → OfRead (IsFound inputs) (all_keyed (kinds_at plan) inputs)
  all_found inputs =
      of_found (IsFound inputs) (all_keyed (kinds_at plan) inputs)
      (λ found known. (
        found_is (Agrees inputs) (all_keyed (kinds_at plan) inputs) found known
            (all_are functions (kinds_at plan) (width_at plan) (λ i. []) inputs (held_each (map (λ k. k.input) inputs))),
        known,
      ))

  module _ (inputs : List Keyed) (found : List KeyedKinds) (is : IsFound inputs found) (e : Entry) (within : e.input < length (map (λ k. k.input) inputs))
      (key : (kind : KindTree) → keyed_kind plan inputs e.input ≡ Some kind → IsOf e.key kind)
      (row : (from : ℕ) (ks : RowKinds) → slice_get (map (λ k. k.input) inputs) e.input ≡ Some from → kinds_at plan from ≡ Some ks → IsRowOf e.row ks) where
    entered : IsOf e.key (group_kind (first_keys functions (kinds_at plan) (width_at plan) (λ i. []) found)) × IsRowOf e.row (row_at found e.input)
    entered =
        let many : length (map (λ k. k.input) inputs) ≡ length inputs = length-map inputs (λ k. k.input) in
        let input = some_at inputs e.input (omega (arith, within, many)) in
        let all : all_of (keyed_kinds (kinds_at plan)) inputs ≡ Some found = agreed (all_of (keyed_kinds (kinds_at plan)) inputs) found is.1 in
        let own = found_of (keyed_kinds (kinds_at plan)) input.0 inputs found all e.input input.1 in
        let same : (own.y).keys ≡ first_keys functions (kinds_at plan) (width_at plan) (λ i. []) found =
        each_at (λ f. f.keys ≡ first_keys functions (kinds_at plan) (width_at plan) (λ i. []) found) found e.input own.y own.at
        (have_first functions (kinds_at plan) (width_at plan) (λ i. []) inputs found is.0) in
        let kind : keyed_kind plan inputs e.input ≡ Some (group_kind (own.y).keys) =
        ap (λ o. option_map (λ (f : KeyedKinds). group_kind f.keys) (option_and_then (keyed_kinds (kinds_at plan)) o)) input.1 ∙ ap
        (option_map (λ (f : KeyedKinds). group_kind f.keys)) own.is in (
          subst (λ ks. IsOf e.key (group_kind ks)) same (key (group_kind (own.y).keys) kind),
          subst (IsRowOf e.row) (sym (ap (λ o. option_map_or (λ (f : KeyedKinds). f.row) o []) own.at))
              (row (input.0).input (own.y).row (get_map (λ k. k.input) inputs e.input ∙ ap (option_map (λ (k : Keyed). k.input)) input.1)
              (keyed_row (kinds_at plan (input.0).input) input.0 own.y own.is)),
        )

-- ---- by key, sorted, each once

module _ (functions : FunctionsKeepKinds) (plan : Plan) (valid : IsPlan plan) (k : ℕ) (entries : List Entry) where
  abbrev pub AreFit : PlanOp → Type 0
  AreFit o = AllByRecursion (EntryFits plan k o) entries

  abbrev pub Brings : PlanOp → Type 0
  Brings o = Has (given_kinds plan k) (brought_together (width_at plan) o entries)

  abbrev Gives : List (List Tree) → Option RowKinds → Type 0
  Gives made given = Has given made

  -- by what the node's operator gives
  by_op : (o : PlanOp) → op_at plan k ≡ Some o → folds plan k ≡ None
      → OfRead (Gives (brought_together (width_at plan) o entries)) (node_gives (kinds_at plan) o) → Brings o
  by_op o at none h =
      subst (λ given. Has given (brought_together (width_at plan) o entries)) (sym (given_unfolded plan k none ∙ kinds_by plan valid k o at))
      (given_of (node_gives (kinds_at plan) o) (brought_together (width_at plan) o entries) h)

  open_row : (o : PlanOp) (e : Entry) → folds plan k ≡ None → IsFoldedRow (folds plan k) plan o e → IsInputRow plan o e
  open_row o e none h = subst (λ found. IsFoldedRow found plan o e) none h

  distinct_brought : (input : ℕ) → AreFit (p_distinct input) → Brings (p_distinct input)
  distinct_brought input fit =
      of_found (λ ks. Each ks (brought_together (width_at plan) (p_distinct input) entries)) (given_kinds plan k)
      (λ ks known. each-map (λ row. IsRowOf row ks) key_row (distinct tree_cmp (map (λ e. e.key) entries))
      (each-distinct tree_cmp (λ key. IsRowOf (key_row key) ks) (map (λ e. e.key) entries)
      (each-map (λ key. IsRowOf (key_row key) ks) (λ e. e.key) entries
      (each_weaker (EntryFits plan k (p_distinct input)) (λ e. IsRowOf (key_row e.key) ks) (λ e f. f.gives ks known) entries fit))))

  order_brought : (input : ℕ) (keys : List SortKey) → op_at plan k ≡ Some (p_order input keys) → AreFit (p_order input keys) → Brings (p_order input keys)
  order_brought input keys at fit =
      by_op (p_order input keys) at (none_folds_at plan k (p_order input keys) at refl)
      (then_found (λ ks. kinds_at plan input ≡ Some ks) (Gives (brought_together (width_at plan) (p_order input keys) entries))
      (λ ks. only_if (is_sorting ks keys) (Some (Some ks)))
      (λ ks known. tested (Gives (brought_together (width_at plan) (p_order input keys) entries)) (is_sorting ks keys) (Some (Some ks))
      (λ t. each-map (λ row. IsRowOf row ks) (λ e. e.row) (sort (run_cmp (dirs_of keys)) entries)
      (each-sort (run_cmp (dirs_of keys)) (λ e. IsRowOf e.row ks) entries
      (each_weaker (EntryFits plan k (p_order input keys)) (λ e. IsRowOf e.row ks)
      (λ e f. (f.row).1 input ks (first_at input e.input f.input) known) entries fit))))
      (kinds_at plan input) (of_found (λ ks. kinds_at plan input ≡ Some ks) (kinds_at plan input) (λ ks known. known)))

  -- of a RANK they are rows of its input, sorted
  rank_brought : (input : ℕ) (keys : List SortKey) (dense : Bool) → AreFit (p_rank input keys dense)
      → Has (kinds_at plan input) (brought_together (width_at plan) (p_rank input keys dense) entries)
  rank_brought input keys dense fit =
      of_found (λ ks. Each ks (brought_together (width_at plan) (p_rank input keys dense) entries)) (kinds_at plan input)
      (λ ks known. each-map (λ row. IsRowOf row ks) (λ e. e.row) (sort (run_cmp (dirs_of keys)) entries)
      (each-sort (run_cmp (dirs_of keys)) (λ e. IsRowOf e.row ks) entries
      (each_weaker (EntryFits plan k (p_rank input keys dense)) (λ e. IsRowOf e.row ks)
      (λ e f. (f.row).1 input ks (first_at input e.input f.input) known) entries fit)))

  all_brought : (input : ℕ) → op_at plan k ≡ Some (p_group_all input) → folds plan k ≡ None → AreFit (p_group_all input) → Brings (p_group_all input)
  all_brought input at none fit =
      by_op (p_group_all input) at none
      (then_found (λ ks. kinds_at plan input ≡ Some ks) (Gives (brought_together (width_at plan) (p_group_all input) entries))
      (λ ks. Some (Some (k_chars ∷ k_bag (kinds_of ks) ∷ [])))
      (λ ks known. each_gathered (λ key. IsOf key k_chars) (λ j row. IsRowOf row ks) (λ row. IsRowOf row (k_chars ∷ k_bag (kinds_of ks) ∷ [])) group_of
      (λ key here bags g. ((here, (rows_of_from_each ks (bags 0) (g 0).each, tt)), tt)) entries
      (each_weaker (EntryFits plan k (p_group_all input)) _
      (λ e f. (f.key k_chars refl, open_row (p_group_all input) e none f.row input ks (first_at input e.input f.input) known)) entries fit))
      (kinds_at plan input) (of_found (λ ks. kinds_at plan input ≡ Some ks) (kinds_at plan input) (λ ks known. known)))

  group_brought : (inputs : List Keyed) → op_at plan k ≡ Some (p_group inputs) → folds plan k ≡ None → AreFit (p_group inputs) → Brings (p_group inputs)
  group_brought inputs at none fit =
      by_op (p_group inputs) at none
      (then_found (IsFound functions plan inputs) (Gives (brought_together (width_at plan) (p_group inputs) entries))
      (λ found. Some (Some (group_kinds found)))
      (λ found is. groups_made functions (kinds_at plan) (width_at plan) (λ i. []) inputs found is.0 entries
      (each_weaker (EntryFits plan k (p_group inputs)) _
      (λ e f. entered functions plan inputs found is e f.input f.key (open_row (p_group inputs) e none f.row)) entries fit))
      (all_keyed (kinds_at plan) inputs) (all_found functions plan inputs))

  pub join_brought : (inputs : List Keyed) (side : Side) (replicated : Bool) → op_at plan k ≡ Some (p_join inputs side replicated)
      → AreFit (p_join inputs side replicated)
      → Brings (p_join inputs side replicated)
  join_brought inputs side replicated at fit =
      let none : folds plan k ≡ None = none_folds_at plan k (p_join inputs side replicated) at refl in
      by_op (p_join inputs side replicated) at none
      (then_found (IsFound functions plan inputs) (Gives (brought_together (width_at plan) (p_join inputs side replicated) entries)) _
      (λ found is. tested (Gives (brought_together (width_at plan) (p_join inputs side replicated) entries))
      (is_join side replicated (length found) && list_all (λ input. not input.inner) inputs) (Some (Some (flat_map (λ f. f.row) found)))
      (λ t. joins_made functions (kinds_at plan) (width_at plan) (λ i. []) side replicated inputs found is.0
      (both_hold (is_join side replicated (length found)) (list_all (λ input. not input.inner) inputs) t).0 entries
      (each_weaker (EntryFits plan k (p_join inputs side replicated)) _
      (λ e f. entered functions plan inputs found is e f.input f.key (open_row (p_join inputs side replicated) e none f.row)) entries fit)))
      (all_keyed (kinds_at plan) inputs) (all_found functions plan inputs))

  -- ---- a GROUP that folds

  finishes_to : (o : PlanOp) → groups_one o ≡ true → (ks : RowKinds) (e : Entry) → GivesAlone plan k o ks e → FinishesTo (folds plan k) ks e
  finishes_to (p_group_all input) one ks e h = h
  finishes_to (p_group inputs) one ks e h = h
  finishes_to (p_load path delim columns) one ks e h = absurd (true≢false (sym one))
  finishes_to (p_filter input test) one ks e h = absurd (true≢false (sym one))
  finishes_to (p_foreach input block) one ks e h = absurd (true≢false (sym one))
  finishes_to (p_join inputs side replicated) one ks e h = absurd (true≢false (sym one))
  finishes_to (p_union inputs) one ks e h = absurd (true≢false (sym one))
  finishes_to (p_distinct input) one ks e h = absurd (true≢false (sym one))
  finishes_to (p_order input keys) one ks e h = absurd (true≢false (sym one))
  finishes_to (p_limit input count) one ks e h = absurd (true≢false (sym one))
  finishes_to (p_store input path delim) one ks e h = absurd (true≢false (sym one))
  finishes_to (p_assert input test message) one ks e h = absurd (true≢false (sym one))
  finishes_to (p_rank input keys dense) one ks e h = absurd (true≢false (sym one))

  folded_brought : (block : TypedBlock) → folds plan k ≡ Some block → (o : PlanOp) → op_at plan k ≡ Some o → AreFit o
      → Has (given_kinds plan k) (folded block entries)
  folded_brought block found o at fit =
      let one : groups_one o ≡ true = sym (ap (λ p. option_map_or groups_one p false) at) ∙ (both_hold _ _ (folds_is plan k block found).0).0 in
      of_found (λ ks. Each ks (folded block entries)) (given_kinds plan k)
      (λ ks known. all_folded block ks entries
      (each_weaker (EntryFits plan k o) _ (λ e f. subst (λ found_. FinishesTo found_ ks e) found (finishes_to o one ks e (f.gives ks known))) entries fit))

  -- ---- all of them

  brought : (o : PlanOp) → op_at plan k ≡ Some o → is_boundary o ≡ true → ranks o ≡ false → folds plan k ≡ None
      → ((input count : ℕ) → o ≡ p_limit input count → ⊥) → AreFit o → Brings o
  brought (p_group_all input) at here unranked none other fit = all_brought input at none fit
  brought (p_group inputs) at here unranked none other fit = group_brought inputs at none fit
  brought (p_join inputs side replicated) at here unranked none other fit = join_brought inputs side replicated at fit
  brought (p_distinct input) at here unranked none other fit = distinct_brought input fit
  brought (p_order input keys) at here unranked none other fit = order_brought input keys at fit
  brought (p_limit input count) at here unranked none other fit = absurd (other input count refl)
  brought (p_rank input keys dense) at here unranked none other fit = absurd (true≢false unranked)
  brought (p_load path delim columns) at here unranked none other fit = absurd (true≢false (sym here))
  brought (p_filter input test) at here unranked none other fit = absurd (true≢false (sym here))
  brought (p_foreach input block) at here unranked none other fit = absurd (true≢false (sym here))
  brought (p_union inputs) at here unranked none other fit = absurd (true≢false (sym here))
  brought (p_store input path delim) at here unranked none other fit = absurd (true≢false (sym here))
  brought (p_assert input test message) at here unranked none other fit = absurd (true≢false (sym here))

  by_folds : (o : PlanOp) → op_at plan k ≡ Some o → is_boundary o ≡ true → ranks o ≡ false → ((input count : ℕ) → o ≡ p_limit input count → ⊥) → AreFit o
      → (found : Option TypedBlock) → folds plan k ≡ found
      → Has (given_kinds plan k) (option_map_or (λ block. folded block entries) found (brought_together (width_at plan) o entries))
  by_folds o at here unranked other fit None found = brought o at here unranked found other fit
  by_folds o at here unranked other fit (Some block) found = folded_brought block found o at fit

  pub reduced_fit : (o : PlanOp) → op_at plan k ≡ Some o → is_boundary o ≡ true → ranks o ≡ false → ((input count : ℕ) → o ≡ p_limit input count → ⊥)
      → AreFit o
      → (form : Form) → form ≡ o_rows (reduced plan k o entries) → HasRows (given_kinds plan k) form
  reduced_fit o at here unranked other fit form is = record {
    rows = reduced plan k o entries;
    is = is;
    kinds = λ ks known. rows_of_from_each ks (reduced plan k o entries)
        (found_is (λ ls. Each ls (reduced plan k o entries)) (given_kinds plan k) ks known (by_folds o at here unranked other fit (folds plan k) refl));
  }

  pub rank_fits : (input : ℕ) (keys : List SortKey) (dense : Bool) → op_at plan k ≡ Some (p_rank input keys dense) → AreFit (p_rank input keys dense)
      → (form : Form) → form ≡ o_rows (reduced plan k (p_rank input keys dense) entries) → HasRows (kinds_at plan input) form
  rank_fits input keys dense at fit form is =
      let none = none_folds_at plan k (p_rank input keys dense) at refl in
      let rows = brought_together (width_at plan) (p_rank input keys dense) entries in
      record {
        rows = rows;
        is = is ∙ ap (λ found. o_rows (option_map_or (λ block. folded block entries) found rows)) none;
        kinds = λ ks known. rows_of_from_each ks rows (found_is (λ ls. Each ls rows) (kinds_at plan input) ks known (rank_brought input keys dense fit));
      }

-- ---- the outputs of a wave

-- the tasks that a reduce task of a boundary node reads
record Reduces (s : Stages) (t : ReduceTask) (o : PlanOp) : Type 0 where
  pub here : is_boundary o ≡ true
  pub by_key : is_replicated o ≡ false
  pub maps : tasks_in s t.wave ≡ map t_map (map_tasks s t.node o)

reduces_as : (s : Stages) (w : ℕ) (t : ReduceTask) (o : PlanOp) → op_at s.plan t.node ≡ Some o → OfPartition s w t kinds.Reduce kinds.Map → Reduces s t o
reduces_as s w t o at of =
    let same : of.op ≡ o = some_same of.op o (sym of.at ∙ at) in
    record {
      here = ap is_boundary (sym same) ∙ of.here;
      by_key = ap is_replicated (sym same) ∙ reduces_alone of.op of.among;
      maps = of.reads ∙ ap (λ p. map t_map (map_tasks s t.node p)) same;
    }

each_of_places : {X : Type 0} (P : X → Type 0) (xs : List X) → ((i : ℕ) (x : X) → slice_get xs i ≡ Some x → P x) → AllByRecursion P xs
each_of_places P [] h = tt
each_of_places P (x ∷ xs) h = (h 0 x refl, each_of_places P xs (λ i y e. h (suc i) y e))

module _ (s : Stages) (t : ReduceTask) (o : PlanOp) (at : op_at s.plan t.node ≡ Some o) (reduces : Reduces s t o) (outs : Outs) (has : HasWave s outs t) where
  -- of some input
  abbrev FitsThere : TaskOut → Type 0
  FitsThere out = (j : ℕ) × MapFits s t.node o j out.form

  of_output : (i : ℕ) → HasOutput s outs t.wave i → (out : TaskOut) → slice_get (outs_at outs t.wave) i ≡ Some out → FitsThere out
  of_output i output out stands =
      let from = mapped_from t_map (map_tasks s t.node o) output.task (record { at = i; is = ap (λ ts. slice_get ts i) (sym reduces.maps) ∙ output.is_of }) in
      let on = on_ways s t.node (ways_into s.plan o) from.x from.among in
      let fits : MapFits s (from.x).node o (from.x).way.input (output.out).form =
      subst (λ u. Fits s u output.out) (sym from.is) output.fits o (ap (op_at s.plan) on.node ∙ at) in (
        (from.x).way.input,
        subst (λ u. MapFits s t.node o (from.x).way.input u.form) (some_same output.out out (sym output.stands ∙ stands))
            (subst (λ n. MapFits s n o (from.x).way.input (output.out).form) on.node fits),
      )

  maps_fit : AllByRecursion FitsThere (outs_at outs t.wave)
  maps_fit =
      each_of_places FitsThere (outs_at outs t.wave)
      (λ i out stands. let within = slice_get_within (outs_at outs t.wave) i out stands in let count = has.count in of_output i
      (has.each i (omega (arith, within, count))) out stands)

  -- the entries of a run that fits
  of_runs : (p : ℕ) (out : TaskOut) → HasRuns s t.node o out.form → AllByRecursion (EntryFits s.plan t.node o) (entries_at p out)
  of_runs p out h =
      subst (λ form. AllByRecursion (EntryFits s.plan t.node o) (option_map_or (λ run. run.entries) (slice_get (runs_in form) p) [])) (sym h.is)
      (by_run (slice_get h.runs p) refl)
    where
      by_run : (found : Option InDirections) → slice_get h.runs p ≡ found
          → AllByRecursion (EntryFits s.plan t.node o) (option_map_or (λ run. run.entries) found [])
      by_run None e = tt
      by_run (Some run) e = (each_at (RunFits s.plan t.node o) h.runs p run e h.each).entries

  entries_fit : ((j : ℕ) (form : Form) → MapFits s t.node o j form → HasRuns s t.node o form) → (p : ℕ)
      → AllByRecursion (EntryFits s.plan t.node o) (flat_map (entries_at p) (outs_at outs t.wave))
  entries_fit runs p =
      each-flat_map (EntryFits s.plan t.node o) (entries_at p) (outs_at outs t.wave)
      (each_weaker FitsThere _ (λ out h. of_runs p out (runs h.0 out.form h.1)) (outs_at outs t.wave) maps_fit)

-- the rows of a LIMIT's tasks
rows_fit : (found : Option RowKinds) (outs : List TaskOut) → AllByRecursion (λ out. HasRows found out.form) outs
    → Has found (flat_map (λ out. rows_in out.form) outs)
rows_fit found outs h =
    of_found (λ ks. Each ks (flat_map (λ out. rows_in out.form) outs)) found
    (λ ks known. each-flat_map (λ row. IsRowOf row ks) (λ out. rows_in out.form) outs
    (each_weaker (λ out. HasRows found out.form) _
    (λ out g. found_is (λ ls. Each ls (rows_in out.form)) found ks known (rows_have found out.form g)) outs h))

module _ (functions : FunctionsKeepKinds) (s : Stages) (valid : IsPlan s.plan) (t : ReduceTask) (outs : Outs) (has : HasWave s outs t) (form : Form) where
  abbrev entries : List Entry
  entries = flat_map (entries_at t.part) (outs_at outs t.wave)

  limit_fits : (input count : ℕ) → op_at s.plan t.node ≡ Some (p_limit input count) → Reduces s t (p_limit input count)
      → IsReduceForm s t.node (p_limit input count) (outs_at outs t.wave) t.part form → HasRows (given_kinds s.plan t.node) form
  limit_fits input count at reduces is =
      let given : given_kinds s.plan t.node ≡ kinds_at s.plan input =
      same_given s.plan valid t.node input (p_limit input count) at (none_folds_at s.plan t.node (p_limit input count) at refl) refl in
      subst (λ found. HasRows found form) (sym given)
      (keeps_fit (kinds_at s.plan input) (is_sorted s.plan input) count (flat_map (λ out. rows_in out.form) (outs_at outs t.wave)) form
      (rows_fit (kinds_at s.plan input) (outs_at outs t.wave)
      (each_weaker (FitsThere s t (p_limit input count) at reduces outs has) (λ out. HasRows (kinds_at s.plan input) out.form) (λ out h. h.1)
      (outs_at outs t.wave) (maps_fit s t (p_limit input count) at reduces outs has))) is)

  node_fits : (o : PlanOp) → op_at s.plan t.node ≡ Some o → Reduces s t o → IsReduceForm s t.node o (outs_at outs t.wave) t.part form
      → HasRows (kinds_brought s.plan t.node o) form
  node_fits (p_limit input count) at reduces is = limit_fits input count at reduces is
  node_fits (p_group_all input) at reduces is =
      reduced_fit functions s.plan valid t.node entries (p_group_all input) at reduces.here refl (λ i n e. absurd (cc))
      (entries_fit s t (p_group_all input) at reduces outs has (λ j f h. h) t.part) form is
  node_fits (p_group inputs) at reduces is =
      reduced_fit functions s.plan valid t.node entries (p_group inputs) at reduces.here refl (λ i n e. absurd (cc))
      (entries_fit s t (p_group inputs) at reduces outs has (λ j f h. h) t.part) form is
  node_fits (p_join inputs side true) at reduces is = absurd (true≢false reduces.by_key)
  node_fits (p_join inputs side false) at reduces is =
      reduced_fit functions s.plan valid t.node entries (p_join inputs side false) at reduces.here refl (λ i n e. absurd (cc))
      (entries_fit s t (p_join inputs side false) at reduces outs has (λ j f h. h) t.part) form is
  node_fits (p_distinct input) at reduces is =
      reduced_fit functions s.plan valid t.node entries (p_distinct input) at reduces.here refl (λ i n e. absurd (cc))
      (entries_fit s t (p_distinct input) at reduces outs has (λ j f h. h) t.part) form is
  node_fits (p_order input keys) at reduces is =
      reduced_fit functions s.plan valid t.node entries (p_order input keys) at reduces.here refl (λ i n e. absurd (cc))
      (entries_fit s t (p_order input keys) at reduces outs has (λ j f h. h) t.part) form is
  node_fits (p_rank input keys dense) at reduces is =
      rank_fits functions s.plan valid t.node entries input keys dense at
      (entries_fit s t (p_rank input keys dense) at reduces outs has (λ j f h. h) t.part) form is
  node_fits (p_load path delim columns) at reduces is = absurd (true≢false (sym reduces.here))
  node_fits (p_filter input test) at reduces is = absurd (true≢false (sym reduces.here))
  node_fits (p_foreach input block) at reduces is = absurd (true≢false (sym reduces.here))
  node_fits (p_union inputs) at reduces is = absurd (true≢false (sym reduces.here))
  node_fits (p_store input path delim) at reduces is = absurd (true≢false (sym reduces.here))
  node_fits (p_assert input test message) at reduces is = absurd (true≢false (sym reduces.here))

pub reduce_forms_fit : FunctionsKeepKinds → ReduceFormFits
reduce_forms_fit functions s valid w place t stands o at outs has form is =
    subst (λ found. HasRows found form) (sym (ap (option_and_then (kinds_brought s.plan t.node)) at))
    (node_fits functions s valid t outs has form o at (reduces_as s w t o at (reduces_at s t w place stands)) is)
