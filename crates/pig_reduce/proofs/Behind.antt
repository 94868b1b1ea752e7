-- What the outputs hold that a reduce task reads.
use Rattle.std.proofs.Common.{◌≡◌, ◌<◌, ◌+◌, ℕ, suc, true, false, List, [], ◌∷◌, length, map, refl, sym, ◌∙◌, ap, subst, arith}
use Rattle.std.specs.Prelude.{Option, Some, None, slice_get}
use Rattle.std.specs.List.{AllByRecursion, flat_map}
use Rattle.std.specs.Option.{option_map_or}
use Rattle.std.proofs.lemmas.Option.{slice_get_within}
use Rattle.pig_value.specs.Gathering.{Entry}
use Rattle.pig_value.proofs.list_laws.Listing.{each-append, each-map, each_at, each_of_all, each_weaker, some_same}
use Rattle.pig_plan.specs.Nodes.{Entering, inputs_of, op_at}
use Rattle.pig_plan.specs.Plans.{Plan, PlanOp, p_load, p_filter, p_foreach, p_group_all, p_group, p_join, p_union, p_distinct, p_order, p_limit, p_store, p_assert, p_rank}
use Rattle.pig_runs.specs.Entries.{InDirections}
use Rattle.pig_physical.specs.Combining.{groups_one}
use Rattle.pig_physical.specs.Fitting.{EntryFits, Fits, HasRuns, HasWave, MapFits, RunFits, run_dirs}
use Rattle.pig_physical.specs.Outs.{Form, Outs, TaskOut, entries_at, outs_at, runs_in}
use Rattle.pig_physical.specs.Seen.{IsTaskOf}
use Rattle.pig_physical.specs.Stages.{MapTask, Stages, Task, map_tasks, path_tasks, t_map, t_rank, t_reduce, tasks_in, tasks_on, ways_into}
use Rattle.pig_physical.specs.declared.parts.ReduceTask.{ReduceTask}
use Rattle.pig_physical.specs.declared.parts.Task.TheVariants as declared
use Rattle.pig_fitting.proofs.Standing.{reduces_at}
use Rattle.pig_reduce.specs.Made.{AreOfFirst, HasDirs}

-- ---- the tasks of the wave that a reduce task reads

-- a map task of the node
abbrev IsMapOf : ℕ → Task → Type 0
IsMapOf k (t_map m) = m.node ≡ k
IsMapOf k task = ⊥

path_of_node : (s : Stages) (k : ℕ) (ways : List Entering) → AllByRecursion (λ m. m.node ≡ k) (tasks_on s k ways)
path_of_node s k [] = tt
path_of_node s k (way ∷ ways) =
    each-append (λ m. m.node ≡ k) (path_tasks s k way) (tasks_on s k ways)
    (each-map (λ m. m.node ≡ k) (λ part. record { node = k; way = way; part = part }) _ (each_of_all _ (λ part. refl) _)) (path_of_node s k ways)

maps_of : (k : ℕ) (ms : List MapTask) → AllByRecursion (λ m. m.node ≡ k) ms → AllByRecursion (IsMapOf k) (map t_map ms)
maps_of k [] h = tt
maps_of k (m ∷ ms) h = (h.0, maps_of k ms h.1)

of_node : (s : Stages) (t : ReduceTask) → IsTaskOf s (t.wave + 1) (declared.Reduce t) → AllByRecursion (IsMapOf t.node) (tasks_in s t.wave)
of_node s t task =
    let own = reduces_at s t (t.wave + 1) task.at task.stands in
    subst (AllByRecursion (IsMapOf t.node)) (sym own.reads) (maps_of t.node (map_tasks s t.node own.op) (path_of_node s t.node (ways_into s.plan own.op)))

-- ---- what their outputs hold

no_runs : {G : Type 0} (form : Form) (p : ℕ) (run : InDirections) → runs_in form ≡ [] → slice_get (runs_in form) p ≡ Some run → G
no_runs form p run none is = absurd (let e = sym (ap (λ rs. slice_get rs p) none) ∙ is in cc)

abbrev HasFits : Plan → ℕ → PlanOp → ℕ → TaskOut → Type 0
HasFits plan k o p out = (run : InDirections) → slice_get (runs_in out.form) p ≡ Some run → RunFits plan k o run

runs_fit : (s : Stages) (k : ℕ) (o : PlanOp) (p : ℕ) (form : Form) → HasRuns s k o form → (run : InDirections) → slice_get (runs_in form) p ≡ Some run
    → RunFits s.plan k o run
runs_fit s k o p form h run is = each_at (RunFits s.plan k o) h.runs p run (ap (λ f. slice_get (runs_in f) p) (sym h.is) ∙ is) h.each

map_fits : (s : Stages) (k : ℕ) (o : PlanOp) (i p : ℕ) (form : Form) → MapFits s k o i form → (run : InDirections) → slice_get (runs_in form) p ≡ Some run
    → RunFits s.plan k o run
map_fits s k (p_limit input count) i p form h run is = no_runs form p run (ap runs_in h.is) is
map_fits s k (p_store input path delim) i p form h run is = no_runs form p run (ap runs_in h.is) is
map_fits s k (p_load path delim columns) i p form h run is = runs_fit s k (p_load path delim columns) p form h run is
map_fits s k (p_filter input test) i p form h run is = runs_fit s k (p_filter input test) p form h run is
map_fits s k (p_foreach input block) i p form h run is = runs_fit s k (p_foreach input block) p form h run is
map_fits s k (p_group_all input) i p form h run is = runs_fit s k (p_group_all input) p form h run is
map_fits s k (p_group inputs) i p form h run is = runs_fit s k (p_group inputs) p form h run is
map_fits s k (p_join inputs side true) i p form h run is = no_runs form p run (ap runs_in h.is) is
map_fits s k (p_join inputs side false) i p form h run is = runs_fit s k (p_join inputs side false) p form h run is
map_fits s k (p_union inputs) i p form h run is = runs_fit s k (p_union inputs) p form h run is
map_fits s k (p_distinct input) i p form h run is = runs_fit s k (p_distinct input) p form h run is
map_fits s k (p_order input keys) i p form h run is = runs_fit s k (p_order input keys) p form h run is
map_fits s k (p_assert input test message) i p form h run is = runs_fit s k (p_assert input test message) p form h run is
map_fits s k (p_rank input keys dense) i p form h run is = runs_fit s k (p_rank input keys dense) p form h run is

task_fits : (s : Stages) (k : ℕ) (o : PlanOp) (p : ℕ) (task : Task) (out : TaskOut) → op_at s.plan k ≡ Some o → IsMapOf k task → Fits s task out
    → HasFits s.plan k o p out
task_fits s k o p (t_map m) out op of fits run is =
    map_fits s k o m.way.input p out.form (subst (λ n. MapFits s n o m.way.input out.form) of (fits o (ap (op_at s.plan) of ∙ op))) run is
task_fits s k o p (t_reduce r) out op of fits run is = absurd of
task_fits s k o p (t_rank r) out op of fits run is = absurd of

all_by_place : {X : Type 0} (P : X → Type 0) (xs : List X) → ((i : ℕ) (x : X) → slice_get xs i ≡ Some x → P x) → AllByRecursion P xs
all_by_place P [] h = tt
all_by_place P (x ∷ xs) h = (h 0 x refl, all_by_place P xs (λ i y is. h (suc i) y is))

module _ (s : Stages) (outs : Outs) (t : ReduceTask) (o : PlanOp) (op : op_at s.plan t.node ≡ Some o) (task : IsTaskOf s (t.wave + 1) (declared.Reduce t))
    (wave : HasWave s outs t) where
  out_fits : (at : ℕ) (out : TaskOut) → slice_get (outs_at outs t.wave) at ≡ Some out → HasFits s.plan t.node o t.part out
  out_fits at out is =
      let within : at < length (tasks_in s t.wave) = let low = slice_get_within (outs_at outs t.wave) at out is in let count = wave.count in omega
      (arith, low, count) in
      let found = wave.each at within in
      let own = each_at (IsMapOf t.node) (tasks_in s t.wave) at found.task found.is_of (of_node s t task) in
      subst (HasFits s.plan t.node o t.part) (some_same found.out out (sym found.stands ∙ is))
      (task_fits s t.node o t.part found.task found.out op own found.fits)

  pub wave_fits : AllByRecursion (HasFits s.plan t.node o t.part) (outs_at outs t.wave)
  wave_fits = all_by_place (HasFits s.plan t.node o t.part) (outs_at outs t.wave) out_fits

  pub wave_dirs : AllByRecursion (HasDirs (run_dirs o) t.part) (outs_at outs t.wave)
  wave_dirs = each_weaker (HasFits s.plan t.node o t.part) (HasDirs (run_dirs o) t.part) (λ out h run is. (h run is).dirs) (outs_at outs t.wave) wave_fits

  pub wave_first : groups_one o ≡ true → AreOfFirst (flat_map (entries_at t.part) (outs_at outs t.wave))
  wave_first one = of_outs (outs_at outs t.wave) wave_fits
    where
      one_input : (p : PlanOp) → groups_one p ≡ true → length (inputs_of p) ≡ 1
      one_input (p_group_all input) h = refl
      one_input (p_group (input ∷ [])) h = refl
      one_input p h = absurd (cc)

      first_of : (e : Entry) → EntryFits s.plan t.node o e → e.input ≡ 0
      first_of e h = let low = h.input in let size = one_input o one in omega (arith, low, size)

      of_run : (out : TaskOut) (found : Option InDirections) → ((run : InDirections) → found ≡ Some run → RunFits s.plan t.node o run)
          → AreOfFirst (option_map_or (λ run. run.entries) found [])
      of_run out None h = tt
      of_run out (Some run) h = each_weaker (EntryFits s.plan t.node o) (λ e. e.input ≡ 0) first_of run.entries (h run refl).entries

      of_outs : (list : List TaskOut) → AllByRecursion (HasFits s.plan t.node o t.part) list → AreOfFirst (flat_map (entries_at t.part) list)
      of_outs [] h = tt
      of_outs (out ∷ list) h = each-append (λ e. e.input ≡ 0) (entries_at t.part out) (flat_map (entries_at t.part) list)
          (of_run out (slice_get (runs_in out.form) t.part) h.0) (of_outs list h.1)
