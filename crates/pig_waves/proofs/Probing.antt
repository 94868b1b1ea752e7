-- What a run says of the two waves of a replicated JOIN: the copies of its further inputs, and what its tasks that probe give.
use Rattle.std.specs.Prelude.{◌≡◌, ◌+◌, ◌==◌, ℕ, zero, suc, Bool, true, false, not, List, [], ◌∷◌, ◌++◌, length, map, Option, Some, refl}
use Rattle.std.proofs.Common.{ap, sym, ◌∙◌, subst, arith, true≢false}
use Rattle.std.specs.List.{AllByRecursion, flat_map}
use Rattle.std.proofs.lemmas.Bool.{ne_eqb}
use Rattle.pig_value.specs.declared.inputs.Input.{Input}
use Rattle.pig_value.specs.declared.operators.Side.{Side}
use Rattle.pig_value.specs.Elementwise.{Each}
use Rattle.pig_value.specs.Orders.{bag_of, row_cmp}
use Rattle.pig_value.specs.Trees.{Tree}
use Rattle.pig_value.proofs.OrderLaws.{row_same, row_total}
use Rattle.pig_value.proofs.list_laws.Bags.{sort-append}
use Rattle.pig_value.proofs.list_laws.Elementwise.{each_length, each_weaker_two}
use Rattle.pig_value.proofs.list_laws.Listing.{each-filter, each_filtered}
use Rattle.pig_plan.proofs.Meanings.{each_both}
use Rattle.pig_plan.specs.Entries.{entries_of, from_inputs}
use Rattle.pig_plan.specs.Nodes.{inputs_of, op_at}
use Rattle.pig_plan.specs.Plans.{Keyed, PlanOp, p_join}
use Rattle.pig_plan.specs.Valid.{IsPlan}
use Rattle.pig_runs.specs.Cutting.{Point}
use Rattle.pig_physical.specs.Outs.{Form, Outs, TaskOut, outs_at, rows_in}
use Rattle.pig_physical.specs.Running.{IsRun, rows_given}
use Rattle.pig_physical.specs.Stages.{MapTask, Stages, enters_first, first_wave, map_tasks, output_count, t_map, tasks_in, ways_into}
use Rattle.pig_physical.specs.Values.{AreAsBag, IsMapValue, IsReplicatedForm, IsValue, copied_entries, handed_entries, probed_rows, task_rows}
use Rattle.pig_waves.proofs.Counted.{probes_counted}
use Rattle.pig_waves.proofs.Places.{each_known, each_left}
use Rattle.pig_waves.proofs.Tasks.{from_copies, name_node, rows_at_node}
use Rattle.pig_waves.specs.Laws.{ProbesAt, copy_tasks, probe_tasks}

abbrev Rows : Type 0
Rows = List (List Tree)

-- the entries of rows of an input are those of each row
pub entries_of_both : (o : PlanOp) (i : ℕ) (xs ys : Rows) → entries_of o i (xs ++ ys) ≡ entries_of o i xs ++ entries_of o i ys
entries_of_both o i [] ys = refl
entries_of_both o i (x ∷ xs) ys = λ j. entries_of o i (x ∷ []) ++ entries_of_both o i xs ys j

module _ (s : Stages) (inputs : List Input) (points : ℕ → List Point) (outs : Outs) (run : IsRun s inputs points outs)
    (k : ℕ) (keyed : List Keyed) (side : Side) (at : op_at s.plan k ≡ Some (p_join keyed side true)) (stands : ProbesAt s k (p_join keyed side true)) where
  abbrev o : PlanOp
  o = p_join keyed side true

  abbrev wave : ℕ
  wave = first_wave s.plan k

  abbrev copy_outs : List TaskOut
  copy_outs = outs_at outs wave

  abbrev pub probe_outs : List TaskOut
  probe_outs = outs_at outs (wave + 1)

  abbrev rows : MapTask → Rows
  rows t = task_rows s.plan inputs outs t

  -- what is known of a task of one of the two waves, and of its output
  abbrev IsOf : Bool → MapTask → Type 0
  IsOf b t = (t.node ≡ k) × (enters_first t ≡ b)

  abbrev IsOut : Bool → MapTask → TaskOut → Type 0
  IsOut b t out = (enters_first t ≡ b) × IsReplicatedForm s outs k o t.way.input (rows t) out.form

  form_of : (pts : Option (List Point)) (t : MapTask) (out : TaskOut) → t.node ≡ k → IsMapValue s inputs pts outs t o out → IsReplicatedForm s outs k o t.way.input (rows t) out.form
  form_of pts t out is value = subst (λ n. IsReplicatedForm s outs n o t.way.input (rows t) out.form) is value.form

  outs_of : (b : Bool) (w : ℕ) (ts : List MapTask) → tasks_in s w ≡ map t_map ts → AllByRecursion (IsOf b) ts → Each (IsOut b) ts (outs_at outs w)
  outs_of b w ts are known =
      each_known (λ t out. IsValue s inputs (Some (points w)) outs (t_map t) out) (IsOut b) (IsOf b)
      (λ t out is h. (is.1, form_of (Some (points w)) t out is.0 (h o (ap (op_at s.plan) is.0 ∙ at)))) ts (outs_at outs w) known
      (each_left (IsValue s inputs (Some (points w)) outs) t_map ts (outs_at outs w)
      (subst (λ found. Each (IsValue s inputs (Some (points w)) outs) found (outs_at outs w)) are (run.values w)))

  named : AllByRecursion (λ t. t.node ≡ k) (map_tasks s k o)
  named = name_node s k (ways_into s.plan o)

  -- ---- copies

  copies_known : AllByRecursion (IsOf false) (copy_tasks s k o)
  copies_known =
      each_both (λ t. t.node ≡ k) (λ t. not (enters_first t) ≡ true) (IsOf false) (λ t is later. (is, turned (enters_first t) later)) (copy_tasks s k o)
      (each-filter (λ t. not (enters_first t)) (λ t. t.node ≡ k) (map_tasks s k o) named) (each_filtered (λ t. not (enters_first t)) (map_tasks s k o))
    where
      turned : (b : Bool) → not b ≡ true → b ≡ false
      turned true h = absurd (true≢false (sym h))
      turned false h = refl

  -- a task that copies hands its rows on
  pub copied_rows : Each (λ t out. rows_in out.form ≡ rows t) (copy_tasks s k o) copy_outs
  copied_rows =
      each_weaker_two (IsOut false) (λ t out. rows_in out.form ≡ rows t) (λ t out h. by_input t.way.input (rows t) out.form h.0 h.1)
      (copy_tasks s k o) copy_outs (outs_of false wave (copy_tasks s k o) stands.copies copies_known)
    where
      by_input : (i : ℕ) (rs : Rows) (form : Form) → (i == 0) ≡ false → IsReplicatedForm s outs k o i rs form → rows_in form ≡ rs
      by_input zero rs form later is = absurd (true≢false later)
      by_input (suc i) rs form later is = ap rows_in is

  handed_is : (ts : List MapTask) (os : List TaskOut) → Each (λ t out. rows_in out.form ≡ rows t) ts os
      → handed_entries o (map t_map ts) os ≡ flat_map (λ t. entries_of o t.way.input (rows t)) ts
  handed_is [] [] h = refl
  handed_is [] (out ∷ os) h = absurd h
  handed_is (t ∷ ts) [] h = absurd h
  handed_is (t ∷ ts) (out ∷ os) h = λ i. entries_of o t.way.input (h.0 i) ++ handed_is ts os h.1 i

  -- all copies are the entries of the rows that come to the further inputs
  pub copies_are : (n : ℕ) (ns : List ℕ) → inputs_of o ≡ n ∷ ns → copied_entries s outs k o ≡ from_inputs (entries_of o) 1 ns (rows_at_node s inputs outs)
  copies_are n ns are =
      ap (λ ts. handed_entries o ts copy_outs) stands.copies
      ∙ handed_is (copy_tasks s k o) copy_outs copied_rows
      ∙ from_copies s inputs outs (entries_of o) (λ i. refl) (entries_of_both o) k o n ns are

  -- ---- probes

  probes_known : AllByRecursion (IsOf true) (probe_tasks s k o)
  probes_known =
      each_both (λ t. t.node ≡ k) (λ t. enters_first t ≡ true) (IsOf true) (λ t is first. (is, first)) (probe_tasks s k o)
      (each-filter enters_first (λ t. t.node ≡ k) (map_tasks s k o) named) (each_filtered enters_first (map_tasks s k o))

  -- a task that probes gives the JOIN of its rows with all copies
  pub probed_forms : Each (λ t out. AreAsBag (probed_rows s outs k o (rows t)) out.form) (probe_tasks s k o) probe_outs
  probed_forms =
      each_weaker_two (IsOut true) (λ t out. AreAsBag (probed_rows s outs k o (rows t)) out.form) (λ t out h. by_input t.way.input (rows t) out.form h.0 h.1)
      (probe_tasks s k o) probe_outs (outs_of true (wave + 1) (probe_tasks s k o) stands.probes probes_known)
    where
      by_input : (i : ℕ) (rs : Rows) (form : Form) → (i == 0) ≡ true → IsReplicatedForm s outs k o i rs form → AreAsBag (probed_rows s outs k o rs) form
      by_input zero rs form first is = is
      by_input (suc i) rs form first is = absurd (true≢false (sym first ∙ ne_eqb (suc i) 0 (λ same. absurd (omega (arith, same)))))

  pub probes_as_many : IsPlan s.plan → length probe_outs ≡ output_count s o
  probes_as_many valid =
      sym (each_length (λ t out. AreAsBag (probed_rows s outs k o (rows t)) out.form) (probe_tasks s k o) probe_outs probed_forms) ∙ probes_counted s k valid o refl

  as_bags : (ts : List MapTask) (os : List TaskOut) → Each (λ t out. AreAsBag (probed_rows s outs k o (rows t)) out.form) ts os
      → bag_of (flat_map (λ out. rows_in out.form) os) ≡ bag_of (flat_map (λ t. probed_rows s outs k o (rows t)) ts)
  as_bags [] [] h = refl
  as_bags [] (out ∷ os) h = absurd h
  as_bags (t ∷ ts) [] h = absurd h
  as_bags (t ∷ ts) (out ∷ os) h =
      sort-append row_cmp row_total row_same (rows_in out.form) (probed_rows s outs k o (rows t))
      (flat_map (λ u. rows_in u.form) os) (flat_map (λ u. probed_rows s outs k o (rows u)) ts)
      (ap (λ form. bag_of (rows_in form)) h.0.is ∙ h.0.bag) (as_bags ts os h.1)

  -- and all of them together the node's rows
  pub probes_together : bag_of (rows_given s.plan outs k o) ≡ bag_of (flat_map (λ t. probed_rows s outs k o (rows t)) (probe_tasks s k o))
  probes_together = as_bags (probe_tasks s k o) probe_outs probed_forms
