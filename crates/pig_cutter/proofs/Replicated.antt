-- A replicated JOIN by its tasks: what those that probe give is together its JOIN of the rows that come to its inputs.
use Rattle.std.specs.Prelude.{◌≡◌, ◌+◌, ℕ, suc, true, List, [], ◌∷◌, ◌++◌, length, map, Some, slice_get, refl}
use Rattle.std.proofs.Common.{ap, sym, ◌∙◌, arith}
use Rattle.std.specs.List.{flat_map}
use Rattle.pig_value.specs.declared.inputs.Input.{Input}
use Rattle.pig_value.specs.declared.operators.Side.{Side}
use Rattle.pig_value.specs.declared.operators.Side.TheVariants as side
use Rattle.pig_value.specs.declared.outcomes.Kept.{Kept}
use Rattle.pig_value.specs.Orders.{bag_of}
use Rattle.pig_value.specs.Trees.{Tree}
use Rattle.pig_plan.specs.ByKey.{gathered, join_of, outer_of}
use Rattle.pig_plan.specs.Entries.{entries_of}
use Rattle.pig_plan.specs.Meaning.{setting, width_at}
use Rattle.pig_plan.specs.Nodes.{inputs_of, op_at}
use Rattle.pig_plan.specs.Operators.{Setting, join_rows, keyed_entries, operator_rows}
use Rattle.pig_plan.specs.Plans.{Keyed, PlanOp, p_join}
use Rattle.pig_plan.specs.Valid.{IsPlan}
use Rattle.pig_runs.specs.Cutting.{Point}
use Rattle.pig_replicated.proofs.Pieces.{entries_in_turn, inner_together, left_together}
use Rattle.pig_physical.specs.Outs.{Outs}
use Rattle.pig_physical.specs.Running.{IsRun, rows_given}
use Rattle.pig_physical.specs.Stages.{MapTask, Stages}
use Rattle.pig_physical.specs.Values.{copied_entries, probed_rows, task_rows}
use Rattle.pig_waves.proofs.Joining.{by_side, is_joined}
use Rattle.pig_waves.proofs.Probing.{copies_are, probes_together}
use Rattle.pig_waves.proofs.Tasks.{from_probes, rows_at_node}
use Rattle.pig_waves.specs.Laws.{ProbesAt, probe_tasks}
use Rattle.pig_cutter.proofs.Boundaries.{once}

abbrev Rows : Type 0
Rows = List (List Tree)

-- ---- its rows

module _ (s : Stages) (inputs : List Input) (kept : List Kept) (points : ℕ → List Point) (outs : Outs) (valid : IsPlan s.plan)
    (run : IsRun s inputs points outs) (k statement : ℕ) where
  abbrev rows : ℕ → Rows
  rows = rows_at_node s inputs outs

  abbrev st : Setting
  st = setting s.plan inputs kept

  abbrev read : MapTask → Rows
  read t = task_rows s.plan inputs outs t

  -- the copies, as entries of the further inputs
  copied : (first : Keyed) (rest : List Keyed) (sd : Side) (at : op_at s.plan k ≡ Some (p_join (first ∷ rest) sd true)) (stands : ProbesAt s k (p_join (first ∷ rest) sd true))
      → copied_entries s outs k (p_join (first ∷ rest) sd true) ≡ keyed_entries 1 rest rows
  copied first rest sd at stands =
      copies_are s inputs points outs run k (first ∷ rest) sd at stands first.input (map (λ i. i.input) rest) refl
      ∙ entries_in_turn (first ∷ rest) rows 1 rest (λ j. let e : 1 + j ≡ suc j = omega arith in ap (slice_get (first ∷ rest)) e)

  -- and the rows of all tasks that probe
  all_read : (o : PlanOp) (n : ℕ) (ns : List ℕ) → inputs_of o ≡ n ∷ ns → flat_map read (probe_tasks s k o) ≡ rows n
  all_read o n ns are = from_probes s inputs outs (λ i rs. rs) (λ i. refl) (λ i xs ys. refl) k o n ns are

  abbrev IsTogether : List Keyed → Side → Type 0
  IsTogether keyed sd = op_at s.plan k ≡ Some (p_join keyed sd true) → ProbesAt s k (p_join keyed sd true)
      → bag_of (rows_given s.plan outs k (p_join keyed sd true)) ≡ bag_of (operator_rows st statement (p_join keyed sd true) rows)

  inner_is : (first second : Keyed) (others : List Keyed) → IsTogether (first ∷ second ∷ others) side.Inner
  inner_is first second others at stands =
      let keyed = first ∷ second ∷ others in
      let o : PlanOp = p_join keyed side.Inner true in
      probes_together s inputs points outs run k keyed side.Inner at stands
      ∙ inner_together first second others rows (width_at s.plan) read (λ t. probed_rows s outs k o (read t))
      (λ t. ap (λ es. bag_of (gathered (join_of (length keyed)) (entries_of o 0 (read t) ++ es))) (copied first (second ∷ others) side.Inner at stands))
      (probe_tasks s k o) (ap bag_of (all_read o first.input (map (λ i. i.input) (second ∷ others)) refl))
      ∙ sym (once (join_rows side.Inner (width_at s.plan) keyed rows))

  left_is : (first second : Keyed) → IsTogether (first ∷ second ∷ []) side.Left
  left_is first second at stands =
      let keyed = first ∷ second ∷ [] in
      let o : PlanOp = p_join keyed side.Left true in
      probes_together s inputs points outs run k keyed side.Left at stands
      ∙ left_together first second rows (width_at s.plan) read (λ t. probed_rows s outs k o (read t))
      (λ t. ap (λ es. bag_of (gathered (outer_of side.Left (width_at s.plan first.input) (width_at s.plan second.input)) (entries_of o 0 (read t) ++ es))) (copied first (second ∷ []) side.Left at stands))
      (probe_tasks s k o) (ap bag_of (all_read o first.input (second.input ∷ []) refl))
      ∙ sym (once (join_rows side.Left (width_at s.plan) keyed rows))

  pub probed_is : (keyed : List Keyed) (sd : Side) → slice_get s.plan k ≡ Some (record { op = p_join keyed sd true; statement = statement }) → IsTogether keyed sd
  probed_is keyed sd at = by_side IsTogether inner_is left_is keyed sd (is_joined s.plan valid k statement keyed sd at)
