-- What a run says of the two waves of a boundary node: its map tasks' outputs, and the rows that its reduce tasks give.
use Rattle.std.specs.Prelude.{◌≡◌, ◌<◌, ◌+◌, ℕ, List, [], length, Some, slice_get}
use Rattle.std.proofs.Common.{ap, sym, ◌∙◌, arith, subst}
use Rattle.std.specs.List.{flat_map, range_with_len}
use Rattle.std.specs.Option.{option_map, option_map_or}
use Rattle.std.proofs.lemmas.List.FromFn.{length-range_with_len}
use Rattle.pig_value.specs.declared.inputs.Input.{Input}
use Rattle.pig_value.specs.Elementwise.{Each}
use Rattle.pig_value.specs.Gathering.{Entry, in_part}
use Rattle.pig_value.specs.Sorts.{sort}
use Rattle.pig_value.specs.Trees.{Tree}
use Rattle.pig_value.proofs.list_laws.Elementwise.{each_flat, each_length, each_weaker_two}
use Rattle.pig_value.proofs.list_laws.Indexing.{get_map}
use Rattle.pig_plan.specs.Entries.{entries_of}
use Rattle.pig_plan.specs.Nodes.{op_at}
use Rattle.pig_plan.specs.Plans.{PlanOp}
use Rattle.pig_runs.specs.Cutting.{Point}
use Rattle.pig_runs.specs.Entries.{InDirections, run_cmp, run_of}
use Rattle.pig_runs.specs.Parts.{pn}
use Rattle.pig_physical.specs.declared.parts.ReduceTask.{ReduceTask}
use Rattle.pig_physical.specs.Outs.{Form, Outs, TaskOut, entries_at, o_rows, o_runs, outs_at, rows_in, runs_in}
use Rattle.pig_physical.specs.Running.{IsRun}
use Rattle.pig_physical.specs.Stages.{MapTask, Stages, first_wave, map_tasks, partition_tasks, reduce_count, t_map, t_reduce, ways_into}
use Rattle.pig_physical.specs.Values.{IsMapForm, IsMapValue, IsReduceForm, IsReduceValue, IsValue, handed_on, partitions, reduced, runs_of, task_rows}
use Rattle.pig_waves.proofs.Places.{each_known, each_left, range_at}
use Rattle.pig_waves.proofs.Tasks.{name_node}
use Rattle.pig_waves.specs.Laws.{StandsAt}

module _ (s : Stages) (inputs : List Input) (points : ℕ → List Point) (outs : Outs) (run : IsRun s inputs points outs)
    (k : ℕ) (o : PlanOp) (at : op_at s.plan k ≡ Some o) (stands : StandsAt s k o) where
  abbrev pub wave : ℕ
  wave = first_wave s.plan k

  abbrev pub count : ℕ
  count = reduce_count s.sizing.reducers o

  abbrev pub map_outs : List TaskOut
  map_outs = outs_at outs wave

  abbrev pub reduce_outs : List TaskOut
  reduce_outs = outs_at outs (wave + 1)

  -- ---- map tasks

  abbrev IsMapOut : MapTask → TaskOut → Type 0
  IsMapOut t out = (t.node ≡ k) × IsMapValue s inputs (Some (points wave)) outs t o out

  pub map_values : Each IsMapOut (map_tasks s k o) map_outs
  map_values =
      each_known (λ t out. IsValue s inputs (Some (points wave)) outs (t_map t) out) IsMapOut (λ t. t.node ≡ k)
      (λ t out is h. (is, h o (ap (op_at s.plan) is ∙ at))) (map_tasks s k o) map_outs (name_node s k (ways_into s.plan o))
      (each_left (IsValue s inputs (Some (points wave)) outs) t_map (map_tasks s k o) map_outs
      (subst (λ ts. Each (IsValue s inputs (Some (points wave)) outs) ts map_outs) stands.maps (run.values wave)))

  -- ---- reduce tasks

  abbrev pub reduce_task : ℕ → ReduceTask
  reduce_task p = record { node = k; wave = wave; part = p }

  pub reduce_values : Each (λ p out. IsReduceValue s outs (reduce_task p) o out) (range_with_len 0 count) reduce_outs
  reduce_values =
      each_weaker_two (λ p out. IsValue s inputs (Some (points (wave + 1))) outs (t_reduce (reduce_task p)) out) (λ p out. IsReduceValue s outs (reduce_task p) o out)
      (λ p out h. h o at) (range_with_len 0 count) reduce_outs
      (each_left (λ t out. IsValue s inputs (Some (points (wave + 1))) outs (t_reduce t) out) reduce_task (range_with_len 0 count) reduce_outs
      (each_left (IsValue s inputs (Some (points (wave + 1))) outs) t_reduce (partition_tasks s wave k o) reduce_outs
      (subst (λ ts. Each (IsValue s inputs (Some (points (wave + 1))) outs) ts reduce_outs) stands.reduces (run.values (wave + 1)))))

  pub as_many : length reduce_outs ≡ count
  as_many = sym (each_length (λ p out. IsReduceValue s outs (reduce_task p) o out) (range_with_len 0 count) reduce_outs reduce_values) ∙ length-range_with_len 0 count

  -- the rows of a node that is no LIMIT, partition by partition
  module _ (form_is : (p : ℕ) (form : Form) → IsReduceForm s k o map_outs p form → form ≡ o_rows (reduced s.plan k o (flat_map (entries_at p) map_outs))) where
    pub rows_by_parts : flat_map (λ out. rows_in out.form) reduce_outs ≡ flat_map (λ p. reduced s.plan k o (flat_map (entries_at p) map_outs)) (range_with_len 0 count)
    rows_by_parts = sym (
        each_flat (λ p. reduced s.plan k o (flat_map (entries_at p) map_outs)) (λ out. rows_in out.form) (range_with_len 0 count) reduce_outs
        (each_weaker_two (λ p out. IsReduceValue s outs (reduce_task p) o out) (λ p out. reduced s.plan k o (flat_map (entries_at p) map_outs) ≡ rows_in out.form)
        (λ p out h. sym (ap rows_in (form_is p out.form h.form))) (range_with_len 0 count) reduce_outs reduce_values))

  -- what map tasks of a node hand on that is neither a LIMIT nor a STORE
  abbrev pub task_entries : MapTask → List Entry
  task_entries t = handed_on s.plan k o (entries_of o t.way.input (task_rows s.plan inputs outs t))

  module _ (form_is : (i : ℕ) (rows : List (List Tree)) (form : Form) → IsMapForm s (Some (points wave)) outs k o i rows form
      → form ≡ o_runs (runs_of s.sizing.reducers (Some (points wave)) o (handed_on s.plan k o (entries_of o i rows)))) where
    pub map_forms : Each (λ t out. out.form ≡ o_runs (runs_of s.sizing.reducers (Some (points wave)) o (task_entries t))) (map_tasks s k o) map_outs
    map_forms =
        each_weaker_two IsMapOut (λ t out. out.form ≡ o_runs (runs_of s.sizing.reducers (Some (points wave)) o (task_entries t)))
        (λ t out h. form_is t.way.input (task_rows s.plan inputs outs t) out.form
        (subst (λ n. IsMapForm s (Some (points wave)) outs n o t.way.input (task_rows s.plan inputs outs t) out.form) h.0 h.1.form)) (map_tasks s k o) map_outs map_values

    -- the entries of a partition, by what a run of the partition has
    module _ (taken : ℕ → List Entry → List Entry) (p : ℕ)
        (has : (es : List Entry) → option_map_or (λ r. r.entries) (slice_get (runs_of s.sizing.reducers (Some (points wave)) o es) p) [] ≡ taken p es) where
      pub entries_of_part : flat_map (entries_at p) map_outs ≡ flat_map (λ t. taken p (task_entries t)) (map_tasks s k o)
      entries_of_part = sym (
          each_flat (λ t. taken p (task_entries t)) (entries_at p) (map_tasks s k o) map_outs
          (each_weaker_two (λ t out. out.form ≡ o_runs (runs_of s.sizing.reducers (Some (points wave)) o (task_entries t))) (λ t out. taken p (task_entries t) ≡ entries_at p out)
          (λ t out h. sym (ap (λ form. option_map_or (λ r. r.entries) (slice_get (runs_in form) p) []) h ∙ has (task_entries t))) (map_tasks s k o) map_outs map_forms))

-- the entries of one partition of several
pub in_partition : (n p : ℕ) → p < n → (es : List Entry)
    → option_map_or (λ r. r.entries) (slice_get (partitions n es) p) [] ≡ sort (run_cmp []) (in_part (λ e. pn e.key n) p es)
in_partition n p below es =
    let zeroth : 0 + p ≡ p = omega arith in
    let run_at : ℕ → InDirections = λ q. run_of [] (in_part (λ e. pn e.key n) q es) in
    ap (λ found. option_map_or (λ r. r.entries) found []) (get_map (λ q. run_of [] (in_part (λ e. pn e.key n) q es)) (range_with_len 0 n) p)
    ∙ ap (λ found. option_map_or (λ r. r.entries) (option_map (λ q. run_of [] (in_part (λ e. pn e.key n) q es)) found) []) (range_at 0 n p below ∙ ap Some zeroth)
