-- What the partitions of an operator by key, or of a DISTINCT, are made of.
use Rattle.std.specs.Prelude.{◌≡◌, ◌<◌, ◌+◌, ℕ, true, List, [], ◌∷◌, map, Some, slice_get, refl}
use Rattle.std.proofs.Common.{ap, sym, ◌∙◌, arith}
use Rattle.std.specs.List.{AllByRecursion, flat_map, range_with_len}
use Rattle.std.specs.Option.{option_map_or}
use Rattle.std.proofs.Math.Nat.{mod-lt}
use Rattle.std.proofs.lemmas.List.Folds.{flat_map-map}
use Rattle.pig_value.specs.declared.inputs.Input.{Input}
use Rattle.pig_value.specs.Gathering.{Entry, in_part}
use Rattle.pig_value.specs.Orders.{bag_of}
use Rattle.pig_value.specs.Sorts.{sort}
use Rattle.pig_value.specs.Trees.{Tree}
use Rattle.pig_value.proofs.list_laws.Elementwise.{range_below}
use Rattle.pig_value.proofs.list_laws.Listing.{each_weaker, each_of_all, flat_map_each}
use Rattle.pig_typed.specs.Blocks.{foreach_all}
use Rattle.pig_typed.specs.Typed.{TypedBlock}
use Rattle.pig_algebra.specs.Combining.{SortedCombinersLaw, combined, folded, grouped, parts_of_rows}
use Rattle.pig_algebra.specs.Cuts.{is_combinable}
use Rattle.pig_plan.specs.ByKey.{gathered, group_of}
use Rattle.pig_plan.specs.Entries.{entries_of, key_entries}
use Rattle.pig_plan.specs.Nodes.{op_at}
use Rattle.pig_plan.specs.Plans.{PlanOp}
use Rattle.pig_runs.specs.Cutting.{Point}
use Rattle.pig_runs.specs.Entries.{run_cmp}
use Rattle.pig_runs.specs.Parts.{pn}
use Rattle.pig_physical.specs.Outs.{Form, Outs, entries_at, o_rows, o_runs, outs_at, rows_in}
use Rattle.pig_physical.specs.Running.{IsRun}
use Rattle.pig_physical.specs.Stages.{MapTask, Stages, first_wave, map_tasks, reduce_count}
use Rattle.pig_physical.specs.Values.{IsMapForm, IsReduceForm, handed_on, partitions, reduced, runs_of, task_rows}
use Rattle.pig_waves.proofs.ByKey.{parts_together}
use Rattle.pig_waves.proofs.Given.{entries_of_part, in_partition, reduce_outs, rows_by_parts, task_entries}
use Rattle.pig_waves.proofs.Probing.{entries_of_both}
use Rattle.pig_waves.proofs.Tasks.{from_tasks, rows_at_node}
use Rattle.pig_waves.specs.Laws.{StandsAt}

abbrev Rows : Type 0
Rows = List (List Tree)

module _ (s : Stages) (inputs : List Input) (points : ℕ → List Point) (outs : Outs) (run : IsRun s inputs points outs) (some : 0 < s.sizing.reducers)
    (k : ℕ) (o : PlanOp) (at : op_at s.plan k ≡ Some o) (stands : StandsAt s k o) where
  abbrev pub own_entries : MapTask → List Entry
  own_entries t = entries_of o t.way.input (task_rows s.plan inputs outs t)

  -- the entries of all tasks
  pub all_entries : flat_map own_entries (map_tasks s k o) ≡ key_entries o (rows_at_node s inputs outs)
  all_entries = from_tasks s inputs outs (entries_of o) (λ i. refl) (entries_of_both o) k o

  abbrev handed : MapTask → List Entry
  handed = task_entries s inputs points outs run k o at stands

  abbrev in_run : ℕ → MapTask → List Entry
  in_run p t = sort (run_cmp []) (in_part (λ e. pn e.key s.sizing.reducers) p (handed t))

  abbrev tasks : List MapTask
  tasks = map_tasks s k o

  abbrev given : Rows
  given = flat_map (λ out. rows_in out.form) (reduce_outs s inputs points outs run k o at stands)

  -- a node whose map tasks hand on runs by partitions, and that gives rows of as many
  module _ (count_is : reduce_count s.sizing.reducers o ≡ s.sizing.reducers)
      (runs_are : (es : List Entry) → runs_of s.sizing.reducers (Some (points (first_wave s.plan k))) o es ≡ partitions s.sizing.reducers es)
      (map_form : (i : ℕ) (rows : Rows) (form : Form) → IsMapForm s (Some (points (first_wave s.plan k))) outs k o i rows form
      → form ≡ o_runs (runs_of s.sizing.reducers (Some (points (first_wave s.plan k))) o (handed_on s.plan k o (entries_of o i rows))))
      (reduce_form : (p : ℕ) (form : Form) → IsReduceForm s k o (outs_at outs (first_wave s.plan k)) p form
      → form ≡ o_rows (reduced s.plan k o (flat_map (entries_at p) (outs_at outs (first_wave s.plan k))))) where
    pub given_by_parts : given ≡ flat_map (λ p. reduced s.plan k o (flat_map (in_run p) tasks)) (range_with_len 0 s.sizing.reducers)
    given_by_parts =
        rows_by_parts s inputs points outs run k o at stands reduce_form
        ∙ ap (λ n. flat_map (λ p. reduced s.plan k o (flat_map (entries_at p) (outs_at outs (first_wave s.plan k)))) (range_with_len 0 n)) count_is
        ∙ flat_map_each (λ p. reduced s.plan k o (flat_map (entries_at p) (outs_at outs (first_wave s.plan k)))) (λ p. reduced s.plan k o (flat_map (in_run p) tasks)) (range_with_len 0 s.sizing.reducers)
        (each_weaker (λ p. p < 0 + s.sizing.reducers) (λ p. reduced s.plan k o (flat_map (entries_at p) (outs_at outs (first_wave s.plan k))) ≡ reduced s.plan k o (flat_map (in_run p) tasks))
        (λ p below. ap (reduced s.plan k o)
        (entries_of_part s inputs points outs run k o at stands map_form (λ q es. sort (run_cmp []) (in_part (λ e. pn e.key s.sizing.reducers) q es)) p
        (λ es. ap (λ runs. option_map_or (λ r. r.entries) (slice_get runs p) []) (runs_are es) ∙ in_partition s.sizing.reducers p (omega (arith, below)) es)))
        (range_with_len 0 s.sizing.reducers) (range_below 0 s.sizing.reducers))

    -- one that does not fold gives what is made of all entries
    module _ (alone : (es : List Entry) → handed_on s.plan k o es ≡ es) (make : Tree → (ℕ → Rows) → Rows) (makes : (es : List Entry) → reduced s.plan k o es ≡ gathered make es) where
      pub given_by_key : bag_of given ≡ bag_of (gathered make (key_entries o (rows_at_node s inputs outs)))
      given_by_key =
          ap bag_of given_by_parts
          ∙ ap bag_of
          (flat_map_each (λ p. reduced s.plan k o (flat_map (in_run p) tasks)) (λ p. gathered make (flat_map (λ t. sort (run_cmp []) (in_part (λ e. pn e.key s.sizing.reducers) p (own_entries t))) tasks)) (range_with_len 0 s.sizing.reducers)
          (each_of_all (λ p. reduced s.plan k o (flat_map (in_run p) tasks) ≡ gathered make (flat_map (λ t. sort (run_cmp []) (in_part (λ e. pn e.key s.sizing.reducers) p (own_entries t))) tasks))
          (λ p. makes (flat_map (in_run p) tasks)
          ∙ ap (gathered make)
          (flat_map_each (in_run p) (λ t. sort (run_cmp []) (in_part (λ e. pn e.key s.sizing.reducers) p (own_entries t))) tasks
          (each_of_all (λ t. in_run p t ≡ sort (run_cmp []) (in_part (λ e. pn e.key s.sizing.reducers) p (own_entries t)))
          (λ t. ap (λ es. sort (run_cmp []) (in_part (λ e. pn e.key s.sizing.reducers) p es)) (alone (own_entries t))) tasks)))
          (range_with_len 0 s.sizing.reducers)))
          ∙ parts_together make own_entries tasks s.sizing.reducers some (key_entries o (rows_at_node s inputs outs)) all_entries

    -- one that folds gives the rows of its FOREACH
    module _ (law : SortedCombinersLaw) (block : TypedBlock) (combinable : is_combinable block ≡ true) (first : AllByRecursion (λ t. t.way.input ≡ 0) tasks)
        (handing : (es : List Entry) → handed_on s.plan k o es ≡ combined (parts_of_rows block) es) (folding : (es : List Entry) → reduced s.plan k o es ≡ folded block es) where
      of_first : (ts : List MapTask) → AllByRecursion (λ t. t.way.input ≡ 0) ts → AllByRecursion (AllByRecursion (λ e. e.input ≡ 0)) (map own_entries ts)
      of_first [] h = tt
      of_first (t ∷ ts) h = (own t.way.input h.0 (task_rows s.plan inputs outs t), of_first ts h.1)
        where
          own : (i : ℕ) → i ≡ 0 → (rows : Rows) → AllByRecursion (λ e. e.input ≡ 0) (entries_of o i rows)
          own i is [] = tt
          own i is (row ∷ rows) = (is, own i is rows)

      abbrev sorted_parts : ℕ → List Entry → List Entry
      sorted_parts p es = sort (run_cmp []) (in_part (λ e. pn e.key s.sizing.reducers) p (combined (parts_of_rows block) es))

      pub given_folded : bag_of given ≡ bag_of (foreach_all block (gathered group_of (key_entries o (rows_at_node s inputs outs))))
      given_folded =
          ap bag_of given_by_parts
          ∙ ap bag_of
          (flat_map_each (λ p. reduced s.plan k o (flat_map (in_run p) tasks)) (λ p. folded block (flat_map (sorted_parts p) (map own_entries tasks))) (range_with_len 0 s.sizing.reducers)
          (each_of_all (λ p. reduced s.plan k o (flat_map (in_run p) tasks) ≡ folded block (flat_map (sorted_parts p) (map own_entries tasks)))
          (λ p. folding (flat_map (in_run p) tasks)
          ∙ ap (folded block)
          (flat_map_each (in_run p) (λ t. sorted_parts p (own_entries t)) tasks
          (each_of_all (λ t. in_run p t ≡ sorted_parts p (own_entries t)) (λ t. ap (λ es. sort (run_cmp []) (in_part (λ e. pn e.key s.sizing.reducers) p es)) (handing (own_entries t))) tasks)
          ∙ sym (flat_map-map (sorted_parts p) own_entries tasks)))
          (range_with_len 0 s.sizing.reducers)))
          ∙ law block combinable (λ key. pn key s.sizing.reducers) s.sizing.reducers (λ key. mod-lt _ some) (run_cmp []) (map own_entries tasks) (of_first tasks first)
          ∙ ap (λ es. bag_of (foreach_all block (grouped es))) (flat_map-map (λ es. es) own_entries tasks ∙ all_entries)
