-- DISTINCT, ORDER, RANK and LIMIT by their tasks.
use Rattle.std.specs.Prelude.{◌≡◌, ◌<◌, ◌+◌, ◌++◌, ℕ, Bool, true, false, List, [], ◌∷◌, length, map, take, None, Some, slice_get, refl}
use Rattle.std.proofs.Common.{ap, sym, ◌∙◌, arith, subst, append-nil}
use Rattle.std.specs.List.{flat_map, range_with_len}
use Rattle.std.specs.Option.{option_map, option_map_or}
use Rattle.pig_value.specs.declared.inputs.Input.{Input}
use Rattle.pig_value.specs.Elementwise.{Each}
use Rattle.pig_value.specs.Gathering.{Entry, in_part}
use Rattle.pig_value.specs.Orders.{bag_of, row_cmp, tree_cmp}
use Rattle.pig_value.specs.Sorts.{distinct, sort}
use Rattle.pig_value.specs.Trees.{Tree, fields_of, v_tuple}
use Rattle.pig_value.proofs.list_laws.Bags.{sort_permutes}
use Rattle.pig_value.proofs.list_laws.Elementwise.{each_weaker_two}
use Rattle.pig_value.proofs.list_laws.Listing.{each_of_all, each_weaker, flat_map_each, some_same}
use Rattle.pig_value.proofs.list_laws.Elementwise.{range_below}
use Rattle.pig_typed.specs.declared.blocks.SortKey.{SortKey}
use Rattle.pig_typed.specs.Blocks.{keys_cmp}
use Rattle.pig_algebra.specs.Combining.{combined, folded, parts_of_rows}
use Rattle.pig_plan.specs.Entries.{dirs_of, entries_of, from_inputs, key_entries, sort_entry, sort_keys}
use Rattle.pig_plan.specs.Meaning.{AreKept, width_at}
use Rattle.pig_plan.specs.Nodes.{inputs_of, is_live, is_sorted, op_at}
use Rattle.pig_plan.specs.Operators.{order_rows, rank_rows}
use Rattle.pig_plan.specs.Plans.{PlanOp, p_distinct, p_limit, p_order, p_rank}
use Rattle.pig_runs.specs.Cutting.{Point, slice_of}
use Rattle.pig_runs.specs.Entries.{run_cmp}
use Rattle.pig_runs.specs.Parts.{pn}
use Rattle.pig_physical.specs.Combining.{folds, groups_one}
use Rattle.pig_physical.specs.Outs.{Form, Outs, TaskOut, entries_at, entries_held, o_rows, o_runs, outs_at, rows_in}
use Rattle.pig_physical.specs.Running.{AreCuts, IsRun, rows_given}
use Rattle.pig_physical.specs.Stages.{MapTask, Stages, first_wave, map_tasks, reduce_count}
use Rattle.pig_physical.specs.Values.{AreInOrder, IsMapForm, IsReduceForm, IsReduceValue, Keeps, KeepsInOrder, all_rows, brought_together, handed_on, key_row, reduced, runs_of, slices, task_rows}
use Rattle.pig_waves.proofs.Distinct.{key_alone, rows_once}
use Rattle.pig_rank.specs.Ranks.{AreSorted}
use Rattle.pig_rank.proofs.Keys.{order_sorted}
use Rattle.pig_rank.proofs.Ranked.{ranks_see_bags}
use Rattle.pig_waves.proofs.Given.{as_many, entries_of_part, map_values, reduce_values, reduce_task, rows_by_parts}
use Rattle.pig_waves.proofs.Limits.{first_together, kept_together}
use Rattle.pig_waves.proofs.Ranked.{ranks_together}
use Rattle.pig_waves.proofs.Sorted.{in_slice_at, slices_together}
use Rattle.pig_waves.proofs.Tasks.{from_tasks, rows_at_node}
use Rattle.pig_waves.specs.Laws.{StandsAt}
use Rattle.pig_waves.proofs.Folders.{none_folds_at}
use Rattle.pig_cutter.proofs.Keyed.{all_entries, given_by_parts, own_entries}

abbrev Rows : Type 0
Rows = List (List Tree)

module _ (s : Stages) (inputs : List Input) (points : ℕ → List Point) (outs : Outs) (run : IsRun s inputs points outs) (some : 0 < s.sizing.reducers) (k input : ℕ) where
  abbrev rows : Rows
  rows = rows_at_node s inputs outs input

  -- the rows of all tasks of a node with one input
  tasks_rows : (o : PlanOp) → inputs_of o ≡ input ∷ [] → flat_map (task_rows s.plan inputs outs) (map_tasks s k o) ≡ rows
  tasks_rows o one =
      from_tasks s inputs outs (λ i rs. rs) (λ i. refl) (λ i xs ys. refl) k o
      ∙ ap (λ nodes. from_inputs (λ i rs. rs) 0 nodes (rows_at_node s inputs outs)) one
      ∙ append-nil rows

  -- ---- DISTINCT

  row_keys : (i : ℕ) (rs : Rows) → map (λ e. e.key) (entries_of (p_distinct input) i rs) ≡ map (λ row. v_tuple (fields_of row)) rs
  row_keys i [] = refl
  row_keys i (r ∷ rs) = ap (λ more. v_tuple (fields_of r) ∷ more) (row_keys i rs)

  pub distinct_is : op_at s.plan k ≡ Some (p_distinct input) → StandsAt s k (p_distinct input)
      → bag_of (rows_given s.plan outs k (p_distinct input)) ≡ bag_of (distinct row_cmp rows)
  distinct_is at stands =
      let o : PlanOp = p_distinct input in
      let tasks : List MapTask = map_tasks s k o in
      let none = none_folds_at s.plan k o at refl in
      let taken : ℕ → MapTask → List Entry = λ p t. sort (run_cmp []) (in_part (λ e. pn e.key s.sizing.reducers) p (combined key_alone (own_entries s inputs points outs run some k o at stands t))) in
      let once : ℕ → Rows = λ p. map key_row (distinct tree_cmp (map {A = Entry} (λ e. e.key) (flat_map (taken p) tasks))) in
      ap bag_of
      (given_by_parts s inputs points outs run some k o at stands refl (λ es. refl) (λ i rs form h. h) (λ p form h. h)
      ∙ flat_map_each (λ p. reduced s.plan k o (flat_map (taken p) tasks)) once (range_with_len 0 s.sizing.reducers)
      (each_of_all (λ p. reduced s.plan k o (flat_map (taken p) tasks) ≡ once p)
      (λ p. ap (λ f. option_map_or (λ block. folded block (flat_map (taken p) tasks)) f (once p)) none) (range_with_len 0 s.sizing.reducers)))
      ∙ rows_once (task_rows s.plan inputs outs) (own_entries s inputs points outs run some k o at stands) (λ t. row_keys t.way.input (task_rows s.plan inputs outs t)) tasks s.sizing.reducers some rows
      (tasks_rows o refl)

  -- ---- ORDER and RANK

  -- what tasks go by of an operator that sorts the rows of its input by keys
  pub record Sorting (keys : List SortKey) (o : PlanOp) : Type 0 where
    pub sorts : sort_keys o ≡ Some keys
    pub ungrouped : groups_one o ≡ false
    pub size : reduce_count s.sizing.reducers o ≡ s.sizing.reducers
    pub map_form : (pts : List Point) (i : ℕ) (rs : Rows) (form : Form) → IsMapForm s (Some pts) outs k o i rs form
        → form ≡ o_runs (runs_of s.sizing.reducers (Some pts) o (handed_on s.plan k o (entries_of o i rs)))
    pub reduce_form : (outs : List TaskOut) (p : ℕ) (form : Form) → IsReduceForm s k o outs p form → form ≡ o_rows (reduced s.plan k o (flat_map (entries_at p) outs))
    pub handed : (es : List Entry) → folds s.plan k ≡ None → handed_on s.plan k o es ≡ es
    pub sliced : (pts : List Point) (es : List Entry) → runs_of s.sizing.reducers (Some pts) o es ≡ slices (Some pts) (dirs_of keys) es
    pub together : (es : List Entry) → brought_together (width_at s.plan) o es ≡ map (λ e. e.row) (sort (run_cmp (dirs_of keys)) es)
    pub entered : key_entries o (rows_at_node s inputs outs) ≡ map (sort_entry keys) rows ++ []

  pub order_sorts : (keys : List SortKey) → Sorting keys (p_order input keys)
  order_sorts keys = record {
    sorts = refl;
    ungrouped = refl;
    size = refl;
    map_form = λ pts i rs form h. h;
    reduce_form = λ outs p form h. h;
    handed = λ es none. ap (λ found. option_map_or (λ parts. combined parts es) (option_map parts_of_rows found) es) none;
    sliced = λ pts es. refl;
    together = λ es. refl;
    entered = refl;
  }

  pub rank_sorts : (keys : List SortKey) (dense : Bool) → Sorting keys (p_rank input keys dense)
  rank_sorts keys dense = record {
    sorts = refl;
    ungrouped = refl;
    size = refl;
    map_form = λ pts i rs form h. h;
    reduce_form = λ outs p form h. h;
    handed = λ es none. ap (λ found. option_map_or (λ parts. combined parts es) (option_map parts_of_rows found) es) none;
    sliced = λ pts es. refl;
    together = λ es. refl;
    entered = refl;
  }

  module _ (keys : List SortKey) (o : PlanOp) (of : Sorting keys o) (at : op_at s.plan k ≡ Some o) (alive : is_live s.plan k ≡ true) (stands : StandsAt s k o) where
    abbrev pts : List Point
    pts = points (first_wave s.plan k)

    abbrev brought : List TaskOut
    brought = outs_at outs (first_wave s.plan k)

    cuts : AreCuts s.sizing.reducers (dirs_of keys) (entries_held brought) pts
    cuts = run.cuts k o keys at alive of.sorts

    none : folds s.plan k ≡ None
    none = none_folds_at s.plan k o at of.ungrouped

    part_is : (p : ℕ) → p < 0 + (length pts + 1) → reduced s.plan k o (flat_map (entries_at p) brought)
        ≡ map (λ e. e.row) (sort (run_cmp (dirs_of keys))
        (flat_map (λ t. slice_of (dirs_of keys) pts p (sort (run_cmp (dirs_of keys)) (own_entries s inputs points outs run some k o at stands t))) (map_tasks s k o)))
    part_is p below =
        let own = own_entries s inputs points outs run some k o at stands in
        let es = flat_map (entries_at p) brought in
        ap (λ f. option_map_or (λ block. folded block es) f (brought_together (width_at s.plan) o es)) none
        ∙ of.together es
        ∙ ap (λ found. map (λ e. e.row) (sort (run_cmp (dirs_of keys)) found))
        (entries_of_part s inputs points outs run k o at stands (of.map_form pts) (λ q found. slice_of (dirs_of keys) pts q (sort (run_cmp (dirs_of keys)) found)) p
        (λ found. ap (λ runs. option_map_or (λ r. r.entries) (slice_get runs p) []) (of.sliced pts found) ∙ in_slice_at (dirs_of keys) pts p (omega (arith, below)) found)
        ∙ flat_map_each _ (λ t. slice_of (dirs_of keys) pts p (sort (run_cmp (dirs_of keys)) (own t))) (map_tasks s k o)
        (each_of_all _ (λ t. ap (λ found. slice_of (dirs_of keys) pts p (sort (run_cmp (dirs_of keys)) found)) (of.handed (own t) none)) (map_tasks s k o)))

    -- its reduce tasks give the rows in order
    pub sorted_is : flat_map (λ out. rows_in out.form) (outs_at outs (first_wave s.plan k + 1)) ≡ order_rows keys rows
    sorted_is =
        let tasks = map_tasks s k o in
        let own = own_entries s inputs points outs run some k o at stands in
        rows_by_parts s inputs points outs run k o at stands (of.reduce_form brought)
        ∙ ap (λ n. flat_map (λ p. reduced s.plan k o (flat_map (entries_at p) brought)) (range_with_len 0 n)) (of.size ∙ sym cuts.count)
        ∙ flat_map_each (λ p. reduced s.plan k o (flat_map (entries_at p) brought)) (λ p. map (λ e. e.row) (sort (run_cmp (dirs_of keys)) (flat_map (λ t. slice_of (dirs_of keys) pts p (sort (run_cmp (dirs_of keys)) (own t))) tasks))) (range_with_len 0 (length pts + 1))
        (each_weaker (λ p. p < 0 + (length pts + 1)) _ part_is (range_with_len 0 (length pts + 1)) (range_below 0 (length pts + 1)))
        ∙ slices_together keys pts cuts.ascend own tasks rows
        (all_entries s inputs points outs run some k o at stands ∙ of.entered ∙ append-nil (map (sort_entry keys) rows))

  pub order_is : (keys : List SortKey) → op_at s.plan k ≡ Some (p_order input keys) → is_live s.plan k ≡ true → StandsAt s k (p_order input keys)
      → rows_given s.plan outs k (p_order input keys) ≡ order_rows keys rows
  order_is keys at alive stands = sorted_is keys (p_order input keys) (order_sorts keys) at alive stands

  -- the rank tasks of a RANK give its rows
  pub rank_is : (keys : List SortKey) (dense : Bool) → op_at s.plan k ≡ Some (p_rank input keys dense) → is_live s.plan k ≡ true
      → StandsAt s k (p_rank input keys dense) → bag_of (rows_given s.plan outs k (p_rank input keys dense)) ≡ bag_of (rank_rows keys dense rows)
  rank_is keys dense at alive stands =
      let brought = outs_at outs (first_wave s.plan k + 1) in
      let sorted = sorted_is keys (p_rank input keys dense) (rank_sorts keys dense) at alive stands in
      let ordered : AreInOrder (p_rank input keys dense) (all_rows brought) =
      λ found is. subst (λ ks. AreSorted ks (all_rows brought)) (some_same keys found is) (subst (AreSorted keys) (sym sorted) (order_sorted keys rows)) in
      ap bag_of (ranks_together s inputs points outs run k input keys dense at stands (as_many s inputs points outs run k (p_rank input keys dense) at stands) ordered
      ∙ ap (rank_rows keys dense) sorted)
      ∙ sym (ranks_see_bags keys dense rows (order_rows keys rows) (sort_permutes (keys_cmp keys) rows))

  -- ---- LIMIT

  module _ (count : ℕ) (at : op_at s.plan k ≡ Some (p_limit input count)) (stands : StandsAt s k (p_limit input count)) where
    abbrev limit : PlanOp
    limit = p_limit input count

    -- its one reduce task, and the rows that this gives
    record HasOne (rs : Rows) : Type 0 where
      pub out : TaskOut
      pub is : rs ≡ rows_in out.form
      pub keeps : Keeps (is_sorted s.plan input) count (flat_map (λ o. rows_in o.form) (outs_at outs (first_wave s.plan k))) out.form

    one_alone : (found : List TaskOut) → Each (λ p out. IsReduceValue s outs (reduce_task s inputs points outs run k limit at stands p) limit out) (0 ∷ []) found → HasOne (flat_map (λ out. rows_in out.form) found)
    one_alone [] h = absurd h
    one_alone (out ∷ []) h = record { out = out; is = append-nil (rows_in out.form); keeps = h.0.form }
    one_alone (out ∷ other ∷ more) h = absurd h.1

    last_out : HasOne (rows_given s.plan outs k limit)
    last_out = one_alone (outs_at outs (first_wave s.plan k + 1)) (reduce_values s inputs points outs run k limit at stands)

    tasks_keep : Each (λ t out. Keeps (is_sorted s.plan input) count (task_rows s.plan inputs outs t) out.form) (map_tasks s k limit) (outs_at outs (first_wave s.plan k))
    tasks_keep =
        each_weaker_two _ (λ t out. Keeps (is_sorted s.plan input) count (task_rows s.plan inputs outs t) out.form)
        (λ t out h. let own : KeepsInOrder (is_sorted s.plan input) count (task_rows s.plan inputs outs t) out.form =
        subst (λ n. IsMapForm s (Some (points (first_wave s.plan k))) outs n limit t.way.input (task_rows s.plan inputs outs t) out.form) h.0 h.1.form in own.keeps)
        (map_tasks s k limit) (outs_at outs (first_wave s.plan k)) (map_values s inputs points outs run k limit at stands)

    pub limit_is : is_sorted s.plan input ≡ true → rows_given s.plan outs k limit ≡ take count rows
    limit_is sorted =
        last_out.is
        ∙ first_together count (task_rows s.plan inputs outs) (map_tasks s k limit) (outs_at outs (first_wave s.plan k)) last_out.out
        (subst (λ b. Each (λ t out. Keeps b count (task_rows s.plan inputs outs t) out.form) (map_tasks s k limit) (outs_at outs (first_wave s.plan k))) sorted tasks_keep)
        (subst (λ b. Keeps b count (flat_map (λ o. rows_in o.form) (outs_at outs (first_wave s.plan k))) last_out.out.form) sorted last_out.keeps)
        ∙ ap (take count) (tasks_rows limit refl)

    pub limit_keeps : is_sorted s.plan input ≡ false → AreKept count rows (rows_given s.plan outs k limit)
    limit_keeps bare =
        subst (AreKept count rows) (sym last_out.is)
        (subst (λ all. AreKept count all (rows_in last_out.out.form)) (tasks_rows limit refl)
        (kept_together count (task_rows s.plan inputs outs) (map_tasks s k limit) (outs_at outs (first_wave s.plan k)) last_out.out
        (subst (λ b. Each (λ t out. Keeps b count (task_rows s.plan inputs outs t) out.form) (map_tasks s k limit) (outs_at outs (first_wave s.plan k))) bare tasks_keep)
        (subst (λ b. Keeps b count (flat_map (λ o. rows_in o.form) (outs_at outs (first_wave s.plan k))) last_out.out.form) bare last_out.keeps)))
