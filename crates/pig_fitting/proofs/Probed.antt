-- What a task of a replicated JOIN joins with copies that fit is rows of the kinds of its node.
use Rattle.std.specs.Prelude.{◌≡◌, ◌+◌, ◌==◌, ℕ, zero, suc, true, not, List, [], ◌∷◌, ◌++◌, map, None, Some, slice_get, refl}
use Rattle.std.proofs.Common.{ap, sym, ◌∙◌, arith, subst, true≢false}
use Rattle.std.specs.List.{AllByRecursion, filter}
use Rattle.std.specs.Option.{option_and_then, option_map}
use Rattle.std.proofs.lemmas.Option.{slice_get_within}
use Rattle.pig_value.specs.Gathering.{Entry}
use Rattle.pig_value.specs.Trees.{Tree}
use Rattle.pig_value.specs.declared.operators.Side.{Side}
use Rattle.pig_value.proofs.list_laws.Listing.{each-append, some_same}
use Rattle.pig_typed.specs.Premises.{FunctionsKeepKinds}
use Rattle.pig_algebra.specs.Combining.{parts_of_rows}
use Rattle.pig_plan.specs.Entries.{entries_of}
use Rattle.pig_plan.specs.NodeKinds.{kinds_at}
use Rattle.pig_plan.specs.Nodes.{inputs_of, is_live, op_at}
use Rattle.pig_plan.specs.Plans.{Keyed, Plan, PlanOp, p_join}
use Rattle.pig_plan.specs.Valid.{IsPlan}
use Rattle.pig_physical.specs.Combining.{combining}
use Rattle.pig_physical.specs.Fitting.{EntryFits, Fits, HasAll, HasOutput, HasRows, given_kinds, replicated_kinds}
use Rattle.pig_physical.specs.Outs.{Form, Outs, TaskOut, outs_at, rows_in}
use Rattle.pig_physical.specs.Stages.{MapTask, Stages, Task, enters_first, first_wave, map_tasks, t_map, t_rank, t_reduce, tasks_in, ways_into}
use Rattle.pig_physical.specs.Values.{AreAsBag, copied_entries, handed_entries, probed_rows}
use Rattle.pig_physical.specs.declared.waves.WaveKind.TheVariants as kinds
use Rattle.pig_waves.proofs.Among.{Among}
use Rattle.pig_waves.proofs.Folders.{none_folds_at}
use Rattle.pig_fitting.proofs.Brought.{join_brought}
use Rattle.pig_fitting.proofs.Entries.{entries_fit}
use Rattle.pig_fitting.proofs.Given.{Has, each_read, gives_by, rows_have}
use Rattle.pig_fitting.proofs.Kept.{bag_fits}
use Rattle.pig_fitting.proofs.Parted.{into, wave_tasks}
use Rattle.pig_fitting.proofs.Standing.{among_filtered, among_maps, on_ways, passes_there}

-- what tasks hand on, each its own entries
handed_each : (P : Entry → Type 0) (o : PlanOp) (tasks : List Task) (outs : List TaskOut)
    → ((i : ℕ) (t : MapTask) (out : TaskOut) → slice_get tasks i ≡ Some (t_map t) → slice_get outs i ≡ Some out
    → AllByRecursion P (entries_of o t.way.input (rows_in out.form)))
    → AllByRecursion P (handed_entries o tasks outs)
handed_each P o [] outs h = tt
handed_each P o (t_map t ∷ tasks) [] h = tt
handed_each P o (t_reduce t ∷ tasks) [] h = tt
handed_each P o (t_rank t ∷ tasks) [] h = tt
handed_each P o (t_map t ∷ tasks) (out ∷ outs) h =
    each-append P (entries_of o t.way.input (rows_in out.form)) (handed_entries o tasks outs) (h 0 t out refl refl)
    (handed_each P o tasks outs (λ i u v at is. h (suc i) u v at is))
handed_each P o (t_reduce t ∷ tasks) (out ∷ outs) h = handed_each P o tasks outs (λ i u v at is. h (suc i) u v at is)
handed_each P o (t_rank t ∷ tasks) (out ∷ outs) h = handed_each P o tasks outs (λ i u v at is. h (suc i) u v at is)

-- the kinds of copied rows
copied_kinds : (plan : Plan) (k : ℕ) (o : PlanOp) (i from : ℕ) → not (i == 0) ≡ true → slice_get (inputs_of o) i ≡ Some from
    → replicated_kinds plan k o i ≡ kinds_at plan from
copied_kinds plan k o zero from further e = absurd (true≢false (sym further))
copied_kinds plan k o (suc i) from further e = ap (option_and_then (kinds_at plan)) e

module _ (functions : FunctionsKeepKinds) (s : Stages) (valid : IsPlan s.plan) (k : ℕ) (inputs : List Keyed) (side : Side)
    (at : op_at s.plan k ≡ Some (p_join inputs side true)) (live : is_live s.plan k ≡ true) where
  abbrev o : PlanOp
  o = p_join inputs side true

  none : combining s.plan k o ≡ None
  none = ap (option_map parts_of_rows) (none_folds_at s.plan k o at refl)

  of_input : (i from : ℕ) → slice_get (inputs_of o) i ≡ Some from → (rows : List (List Tree)) → Has (kinds_at s.plan from) rows
      → AllByRecursion (EntryFits s.plan k o) (entries_of o i rows)
  of_input i from e rows has =
      entries_fit functions s.plan k i from rows (each_read (kinds_at s.plan from) rows has) o (gives_by s.plan valid k o at) none e

  copies_stand : tasks_in s (first_wave s.plan k) ≡ map t_map (filter (λ t. not (enters_first t)) (map_tasks s k o))
  copies_stand =
      (let e : first_wave s.plan k ≡ first_wave s.plan k + 0 = omega arith in ap (tasks_in s) e) ∙ wave_tasks s k o at live refl 0 kinds.Copy refl

  -- a task that copies rows
  of_task : (t : MapTask) → Among t (filter (λ u. not (enters_first u)) (map_tasks s k o)) → (out : TaskOut) → Fits s (t_map t) out
      → AllByRecursion (EntryFits s.plan k o) (entries_of o t.way.input (rows_in out.form))
  of_task t among out fits =
      let on = on_ways s k (ways_into s.plan o) t (among_filtered (λ u. not (enters_first u)) (map_tasks s k o) t among) in
      let to = into functions s.plan valid k o at live t.way on.way in
      let own : HasRows (replicated_kinds s.plan t.node o t.way.input) out.form = fits o (ap (op_at s.plan) on.node ∙ at) in
      let kinds : replicated_kinds s.plan t.node o t.way.input ≡ kinds_at s.plan to.from =
      copied_kinds s.plan t.node o t.way.input to.from (passes_there (λ u. not (enters_first u)) (map_tasks s k o) t among) to.at in
      of_input t.way.input to.from to.at (rows_in out.form)
      (rows_have (kinds_at s.plan to.from) out.form (subst (λ found. HasRows found out.form) kinds own))

  module _ (outs : Outs) (has : HasAll s outs (first_wave s.plan k)) where
    of_output : (i : ℕ) (t : MapTask) (out : TaskOut) → slice_get (tasks_in s (first_wave s.plan k)) i ≡ Some (t_map t)
        → slice_get (outs_at outs (first_wave s.plan k)) i ≡ Some out → HasOutput s outs (first_wave s.plan k) i
        → AllByRecursion (EntryFits s.plan k o) (entries_of o t.way.input (rows_in out.form))
    of_output i t out task stands output =
        let among : Among t (filter (λ u. not (enters_first u)) (map_tasks s k o)) =
        among_maps (filter (λ u. not (enters_first u)) (map_tasks s k o)) t (record { at = i; is = ap (λ ts. slice_get ts i) (sym copies_stand) ∙ task }) in
        of_task t among out
        (subst (λ u. Fits s u out) (some_same output.task (t_map t) (sym output.is_of ∙ task))
        (subst (Fits s output.task) (some_same output.out out (sym output.stands ∙ stands)) output.fits))

    copied : AllByRecursion (EntryFits s.plan k o) (copied_entries s outs k o)
    copied =
        handed_each (EntryFits s.plan k o) o (tasks_in s (first_wave s.plan k)) (outs_at outs (first_wave s.plan k))
        (λ i t out task stands.
        of_output i t out task stands (has.each i (slice_get_within (tasks_in s (first_wave s.plan k)) i (t_map t) task)))

    pub probed_fit : (from : ℕ) → slice_get (inputs_of (p_join inputs side true)) 0 ≡ Some from → (rows : List (List Tree)) → Has (kinds_at s.plan from) rows
        → (form : Form) → AreAsBag (probed_rows s outs k (p_join inputs side true) rows) form → HasRows (given_kinds s.plan k) form
    probed_fit from e rows is form bag =
        bag_fits (given_kinds s.plan k) (probed_rows s outs k o rows) form
        (join_brought functions s.plan valid k (entries_of o 0 rows ++ copied_entries s outs k o) inputs side true at
        (each-append (EntryFits s.plan k o) (entries_of o 0 rows) (copied_entries s outs k o) (of_input 0 from e rows is) copied)) bag
