-- What a map or store task makes of rows of its source's kinds fits it.
use Rattle.std.specs.Prelude.{◌≡◌, ◌==◌, ℕ, zero, suc, true, false, List, [], ◌∷◌, length, Option, Some, None, slice_get, refl}
use Rattle.std.proofs.Common.{ap, sym, ◌∙◌, inl, subst, true≢false}
use Rattle.std.specs.List.{AllByRecursion, range_with_len}
use Rattle.std.specs.Option.{option_and_then, option_map, option_map_or}
use Rattle.std.proofs.lemmas.Bool.{eq-eqb}
use Rattle.std.proofs.lemmas.List.{length-map}
use Rattle.std.proofs.lemmas.List.FromFn.{length-range_with_len}
use Rattle.pig_value.specs.Gathering.{Entry, in_part}
use Rattle.pig_value.specs.Kinds.{IsRowOf}
use Rattle.pig_value.specs.Texts.{rows_text}
use Rattle.pig_value.specs.Trees.{Tree}
use Rattle.pig_value.proofs.KindLaws.{rows_of_from_each}
use Rattle.pig_value.proofs.OfRead.{OfRead}
use Rattle.pig_value.proofs.list_laws.Bags.{each-sort}
use Rattle.pig_value.proofs.list_laws.Listing.{each-filter, each-map, each_of_all, some_same}
use Rattle.pig_value.specs.declared.operators.Side.{Side}
use Rattle.pig_typed.specs.declared.blocks.SortKey.{SortKey}
use Rattle.pig_typed.specs.Premises.{FunctionsKeepKinds}
use Rattle.pig_typed.specs.Typed.{TypedBlock}
use Rattle.pig_typed.proofs.Found.{found_is}
use Rattle.pig_algebra.specs.Combining.{PartsFinishToTheRow, combined, parts_of_rows}
use Rattle.pig_plan.proofs.OfKinds.{Each}
use Rattle.pig_plan.specs.Entries.{dirs_of, entries_of, sort_keys}
use Rattle.pig_plan.specs.NodeKinds.{kinds_at}
use Rattle.pig_plan.specs.Nodes.{inputs_of, is_boundary, is_live, is_sorted, is_store, names, op_at}
use Rattle.pig_plan.specs.Plans.{Keyed, Plan, PlanOp, p_load, p_filter, p_foreach, p_group_all, p_group, p_join, p_union, p_distinct, p_order, p_limit, p_store}
use Rattle.pig_plan.specs.Plans.{p_assert, p_rank}
use Rattle.pig_plan.specs.Steps.{through}
use Rattle.pig_plan.specs.Valid.{IsPlan}
use Rattle.pig_runs.specs.Entries.{run_cmp, run_of}
use Rattle.pig_runs.specs.Parts.{pn}
use Rattle.pig_physical.specs.Combining.{combining, folds, groups_one}
use Rattle.pig_physical.specs.Fitting.{EntryFits, HasAll, HasRows, HasRuns, IsRunCount, MapFits, RunFits, replicated_kinds}
use Rattle.pig_physical.specs.Outs.{Form, Outs, o_runs}
use Rattle.pig_physical.specs.Stages.{Stages, first_wave, is_replicated, ways_into}
use Rattle.pig_physical.specs.Values.{IsMapForm, IsReplicatedForm, Keeps, handed_on, partitions, runs_of, slices}
use Rattle.pig_waves.proofs.Alone.{folds_alone}
use Rattle.pig_waves.proofs.Among.{Among, any_holds}
use Rattle.pig_waves.proofs.Folders.{folds_is}
use Rattle.pig_fitting.specs.Laws.{MapFormFits}
use Rattle.pig_fitting.proofs.Combined.{all_fits, distinct_fits, one_fits}
use Rattle.pig_fitting.proofs.Entries.{entries_fit}
use Rattle.pig_fitting.proofs.Given.{Has, each_read, gives_by, given_unfolded, has_given, node_found}
use Rattle.pig_fitting.proofs.Going.{both_hold}
use Rattle.pig_fitting.proofs.Kept.{keeps_fit}
use Rattle.pig_fitting.proofs.Parted.{into}
use Rattle.pig_fitting.proofs.Probed.{probed_fit}
use Rattle.pig_fitting.proofs.Standing.{Stands, at_node, at_store, task_stands}

-- ---- runs

module _ (s : Stages) (k : ℕ) (o : PlanOp) (entries : List Entry) (fit : AllByRecursion (EntryFits s.plan k o) entries) where
  sorted_runs : (keys : List SortKey) → sort_keys o ≡ Some keys → HasRuns s k o (o_runs (slices None (dirs_of keys) entries))
  sorted_runs keys e = record {
    runs = run_of (dirs_of keys) entries ∷ [];
    is = refl;
    count = subst (λ found. IsRunCount s.sizing.reducers found 1) (sym e) (inl refl);
    each = (
      record {
        dirs = sym (ap (λ found. option_map_or dirs_of found []) e);
        entries = each-sort (run_cmp (dirs_of keys)) (EntryFits s.plan k o) entries fit;
      },
      tt,
    );
  }

  parted_runs : sort_keys o ≡ None → HasRuns s k o (o_runs (partitions s.sizing.reducers entries))
  parted_runs e =
      let n : ℕ = s.sizing.reducers in
      record {
        runs = partitions s.sizing.reducers entries;
        is = refl;
        count = subst (λ found. IsRunCount s.sizing.reducers found (length (partitions s.sizing.reducers entries))) (sym e)
            (length-map (range_with_len 0 s.sizing.reducers) (λ p. run_of [] (in_part (λ d. pn d.key s.sizing.reducers) p entries))
            ∙ length-range_with_len 0 s.sizing.reducers);
        each = each-map (RunFits s.plan k o) (λ p. run_of [] (in_part (λ d. pn d.key s.sizing.reducers) p entries)) (range_with_len 0 s.sizing.reducers)
            (each_of_all _ (λ p. record {
              dirs = sym (ap (λ found. option_map_or dirs_of found []) e);
              entries = each-sort (run_cmp []) (EntryFits s.plan k o) (in_part (λ d. pn d.key s.sizing.reducers) p entries)
                  (each-filter _ (EntryFits s.plan k o) entries fit);
            }) (range_with_len 0 s.sizing.reducers));
      }

  by_keys : (found : Option (List SortKey)) → sort_keys o ≡ found
      → HasRuns s k o (o_runs (option_map_or (λ keys. slices None (dirs_of keys) entries) found (partitions s.sizing.reducers entries)))
  by_keys None e = parted_runs e
  by_keys (Some keys) e = sorted_runs keys e

  has_runs : HasRuns s k o (o_runs (runs_of s.sizing.reducers None o entries))
  has_runs = by_keys (sort_keys o) refl

-- ---- entries

module _ (functions : FunctionsKeepKinds) (law : PartsFinishToTheRow) (plan : Plan) (valid : IsPlan plan) (k : ℕ) where
  module _ (i from : ℕ) (rows : List (List Tree)) (each : AllByRecursion (λ row. OfRead (IsRowOf row) (kinds_at plan from)) rows) where
    abbrev Fit : PlanOp → List Entry → Type 0
    Fit o entries = AllByRecursion (EntryFits plan k o) entries

    open_entries : (o : PlanOp) → op_at plan k ≡ Some o → slice_get (inputs_of o) i ≡ Some from → combining plan k o ≡ None
        → Fit o (handed_on plan k o (entries_of o i rows))
    open_entries o at e none =
        subst (λ parts. Fit o (option_map_or (λ f. combined f (entries_of o i rows)) parts (entries_of o i rows))) (sym none)
        (entries_fit functions plan k i from rows each o (gives_by plan valid k o at) none e)

    first_input : (n j : ℕ) → slice_get (n ∷ []) j ≡ Some from → AllByRecursion (λ row. OfRead (IsRowOf row) (kinds_at plan n)) rows
    first_input n zero e = subst (λ m. AllByRecursion (λ row. OfRead (IsRowOf row) (kinds_at plan m)) rows) (sym (some_same n from e)) each
    first_input n (suc j) e = absurd (cc)

    folded_entries : (block : TypedBlock) → folds plan k ≡ Some block → (o : PlanOp) → groups_one o ≡ true → op_at plan k ≡ Some o
        → slice_get (inputs_of o) i ≡ Some from
        → Fit o (combined (parts_of_rows block) (entries_of o i rows))
    folded_entries block found (p_group_all input) one at e = all_fits functions law plan valid k block found input at i rows (first_input input i e)
    folded_entries block found (p_group (input ∷ [])) one at e =
        one_fits functions law plan valid k block found input at (gives_by plan valid k (p_group (input ∷ [])) at) i from e rows each
    folded_entries block found (p_group []) one at e = absurd (true≢false (sym one))
    folded_entries block found (p_group (input ∷ other ∷ inputs)) one at e = absurd (true≢false (sym one))
    folded_entries block found (p_load path delim columns) one at e = absurd (true≢false (sym one))
    folded_entries block found (p_filter input test) one at e = absurd (true≢false (sym one))
    folded_entries block found (p_foreach input items) one at e = absurd (true≢false (sym one))
    folded_entries block found (p_join inputs side replicated) one at e = absurd (true≢false (sym one))
    folded_entries block found (p_union inputs) one at e = absurd (true≢false (sym one))
    folded_entries block found (p_distinct input) one at e = absurd (true≢false (sym one))
    folded_entries block found (p_order input keys) one at e = absurd (true≢false (sym one))
    folded_entries block found (p_limit input count) one at e = absurd (true≢false (sym one))
    folded_entries block found (p_store input path delim) one at e = absurd (true≢false (sym one))
    folded_entries block found (p_assert input test message) one at e = absurd (true≢false (sym one))
    folded_entries block found (p_rank input keys dense) one at e = absurd (true≢false (sym one))

    by_folds : (o : PlanOp) → op_at plan k ≡ Some o → slice_get (inputs_of o) i ≡ Some from → combining plan k o ≡ option_map parts_of_rows (folds plan k)
        → (found : Option TypedBlock) → folds plan k ≡ found → Fit o (handed_on plan k o (entries_of o i rows))
    by_folds o at e is None found = open_entries o at e (is ∙ ap (option_map parts_of_rows) found)
    by_folds o at e is (Some block) found =
        let one : groups_one o ≡ true = sym (ap (λ p. option_map_or groups_one p false) at) ∙ (both_hold _ _ (folds_is plan k block found).0).0 in
        subst (λ parts. Fit o (option_map_or (λ f. combined f (entries_of o i rows)) parts (entries_of o i rows)))
        (sym (is ∙ ap (option_map parts_of_rows) found))
        (folded_entries block found o one at e)

    pub handed_fit : (o : PlanOp) → op_at plan k ≡ Some o → slice_get (inputs_of o) i ≡ Some from → Fit o (handed_on plan k o (entries_of o i rows))
    handed_fit (p_distinct input) at e = distinct_fits plan valid k input at i rows (first_input input i e)
    handed_fit (p_load path delim columns) at e = by_folds (p_load path delim columns) at e refl (folds plan k) refl
    handed_fit (p_filter input test) at e = by_folds (p_filter input test) at e refl (folds plan k) refl
    handed_fit (p_foreach input block) at e = by_folds (p_foreach input block) at e refl (folds plan k) refl
    handed_fit (p_group_all input) at e = by_folds (p_group_all input) at e refl (folds plan k) refl
    handed_fit (p_group inputs) at e = by_folds (p_group inputs) at e refl (folds plan k) refl
    handed_fit (p_join inputs side replicated) at e = by_folds (p_join inputs side replicated) at e refl (folds plan k) refl
    handed_fit (p_union inputs) at e = by_folds (p_union inputs) at e refl (folds plan k) refl
    handed_fit (p_order input keys) at e = by_folds (p_order input keys) at e refl (folds plan k) refl
    handed_fit (p_limit input count) at e = by_folds (p_limit input count) at e refl (folds plan k) refl
    handed_fit (p_store input path delim) at e = by_folds (p_store input path delim) at e refl (folds plan k) refl
    handed_fit (p_assert input test message) at e = by_folds (p_assert input test message) at e refl (folds plan k) refl
    handed_fit (p_rank input keys dense) at e = by_folds (p_rank input keys dense) at e refl (folds plan k) refl

-- ---- tasks

-- what a boundary node names does not fold
pub named_open : (plan : Plan) (k from i : ℕ) (o : PlanOp) → op_at plan k ≡ Some o → is_live plan k ≡ true → is_boundary o ≡ true
    → slice_get (inputs_of o) i ≡ Some from → folds plan from ≡ None
named_open plan k from i o at live here e = by_found (folds plan from) refl
  where
    by_found : (found : Option TypedBlock) → folds plan from ≡ found → folds plan from ≡ None
    by_found None f = f
    by_found (Some block) f =
        let node = node_found plan k o at in
        let named : names (node.0).op from ≡ true =
        any_holds (λ j. j == from) (inputs_of (node.0).op) from (subst (λ p. Among from (inputs_of p)) (sym node.2) (record { at = i; is = e }))
        (eq-eqb from from refl) in
        let is : o ≡ p_foreach from block = sym node.2 ∙ folds_alone plan from block f k node.0 node.1 live named in
        absurd (true≢false (sym here ∙ ap is_boundary is))

module _ (functions : FunctionsKeepKinds) (law : PartsFinishToTheRow) (s : Stages) (valid : IsPlan s.plan) (outs : Outs) (k : ℕ) (i from : ℕ)
    (rows : List (List Tree)) (has : Has (kinds_at s.plan from) rows) (form : Form) where
  runs_fit : (o : PlanOp) → op_at s.plan k ≡ Some o → slice_get (inputs_of o) i ≡ Some from
      → form ≡ o_runs (runs_of s.sizing.reducers None o (handed_on s.plan k o (entries_of o i rows))) → HasRuns s k o form
  runs_fit o at e is =
      subst (HasRuns s k o) (sym is)
      (has_runs s k o (handed_on s.plan k o (entries_of o i rows))
      (handed_fit functions law s.plan valid k i from rows (each_read (kinds_at s.plan from) rows has) o at e))

  limit_fits : (input count : ℕ) → slice_get (input ∷ []) i ≡ Some from → Keeps (is_sorted s.plan input) count rows form
      → HasRows (kinds_at s.plan input) form
  limit_fits input count e h = by_place i e
    where
      by_place : (j : ℕ) → slice_get (input ∷ []) j ≡ Some from → HasRows (kinds_at s.plan input) form
      by_place zero g =
          keeps_fit (kinds_at s.plan input) (is_sorted s.plan input) count rows form
          (subst (λ n. Has (kinds_at s.plan n) rows) (sym (some_same input from g)) has) h
      by_place (suc j) g = absurd (cc)

  -- of a replicated JOIN: joined rows, and those that are copied
  replicated_fit : (inputs : List Keyed) (side : Side) → op_at s.plan k ≡ Some (p_join inputs side true) → is_live s.plan k ≡ true
      → (j : ℕ) → slice_get (inputs_of (p_join inputs side true)) j ≡ Some from → (j ≡ 0 → HasAll s outs (first_wave s.plan k))
      → IsReplicatedForm s outs k (p_join inputs side true) j rows form → HasRows (replicated_kinds s.plan k (p_join inputs side true) j) form
  replicated_fit inputs side at live zero e copies is = probed_fit functions s valid k inputs side at live outs (copies refl) from e rows has form is
  replicated_fit inputs side at live (suc j) e copies is = record {
    rows = rows;
    is = is;
    kinds = λ ks known.
        rows_of_from_each ks rows (found_is (λ ls. Each ls rows) (kinds_at s.plan from) ks (sym (ap (option_and_then (kinds_at s.plan)) e) ∙ known) has);
  }

  node_fits : (o : PlanOp) → op_at s.plan k ≡ Some o → is_live s.plan k ≡ true → is_boundary o ≡ true → slice_get (inputs_of o) i ≡ Some from
      → (is_replicated o ≡ true → i ≡ 0 → HasAll s outs (first_wave s.plan k)) → IsMapForm s None outs k o i rows form → MapFits s k o i form
  node_fits (p_limit input count) at live here e copies is = limit_fits input count e is.keeps
  node_fits (p_group_all input) at live here e copies is = runs_fit (p_group_all input) at e is
  node_fits (p_group inputs) at live here e copies is = runs_fit (p_group inputs) at e is
  node_fits (p_join inputs side true) at live here e copies is = replicated_fit inputs side at live i e (copies refl) is
  node_fits (p_join inputs side false) at live here e copies is = runs_fit (p_join inputs side false) at e is
  node_fits (p_distinct input) at live here e copies is = runs_fit (p_distinct input) at e is
  node_fits (p_order input keys) at live here e copies is = runs_fit (p_order input keys) at e is
  node_fits (p_rank input keys dense) at live here e copies is = runs_fit (p_rank input keys dense) at e is
  node_fits (p_load path delim columns) at live here e copies is = absurd (true≢false (sym here))
  node_fits (p_filter input test) at live here e copies is = absurd (true≢false (sym here))
  node_fits (p_foreach input block) at live here e copies is = absurd (true≢false (sym here))
  node_fits (p_union inputs) at live here e copies is = absurd (true≢false (sym here))
  node_fits (p_store input path delim) at live here e copies is = absurd (true≢false (sym here))
  node_fits (p_assert input test message) at live here e copies is = absurd (true≢false (sym here))

store_fits : (s : Stages) (outs : Outs) (k : ℕ) (o : PlanOp) → is_store o ≡ true → (i : ℕ) (rows : List (List Tree)) (form : Form)
    → IsMapForm s None outs k o i rows form → MapFits s k o i form
store_fits s outs k (p_store input path delim) store i rows form is = record { bytes = rows_text delim rows; is = is }
store_fits s outs k (p_load path delim columns) store i rows form is = absurd (true≢false (sym store))
store_fits s outs k (p_filter input test) store i rows form is = absurd (true≢false (sym store))
store_fits s outs k (p_foreach input block) store i rows form is = absurd (true≢false (sym store))
store_fits s outs k (p_group_all input) store i rows form is = absurd (true≢false (sym store))
store_fits s outs k (p_group inputs) store i rows form is = absurd (true≢false (sym store))
store_fits s outs k (p_join inputs side replicated) store i rows form is = absurd (true≢false (sym store))
store_fits s outs k (p_union inputs) store i rows form is = absurd (true≢false (sym store))
store_fits s outs k (p_distinct input) store i rows form is = absurd (true≢false (sym store))
store_fits s outs k (p_order input keys) store i rows form is = absurd (true≢false (sym store))
store_fits s outs k (p_limit input count) store i rows form is = absurd (true≢false (sym store))
store_fits s outs k (p_assert input test message) store i rows form is = absurd (true≢false (sym store))
store_fits s outs k (p_rank input keys dense) store i rows form is = absurd (true≢false (sym store))

pub map_forms_fit : FunctionsKeepKinds → PartsFinishToTheRow → MapFormFits
map_forms_fit functions law s valid w place t stands o at outs copies rows given form is = by_stand (task_stands s t w place stands)
  where
    by_stand : Stands s t → MapFits s t.node o t.way.input form
    by_stand (at_store p found live store way part) =
        store_fits s outs t.node o (ap is_store (some_same o p (sym at ∙ found)) ∙ store) t.way.input (through (folds s.plan) s.plan t.way.path.nodes rows) form is
    by_stand (at_node p found live here way part) =
        let same : p ≡ o = some_same p o (sym found ∙ at) in
        let boundary : is_boundary o ≡ true = ap is_boundary (sym same) ∙ here in
        let to = into functions s.plan valid t.node o at live t.way (subst (λ q. Among t.way (ways_into s.plan q)) same way) in
        let none : folds s.plan to.from ≡ None = named_open s.plan t.node to.from t.way.input o at live boundary to.at in
        let goes : Has (kinds_at s.plan to.from) (through (folds s.plan) s.plan t.way.path.nodes rows) =
        subst (λ found_. Has found_ (through (folds s.plan) s.plan t.way.path.nodes rows)) (given_unfolded s.plan to.from none)
        ((to.on).goes rows (has_given s.plan t.way.path.source rows given)) in
        node_fits functions law s valid outs t.node t.way.input to.from (through (folds s.plan) s.plan t.way.path.nodes rows) goes form o at live boundary
        to.at (copies o at) is
