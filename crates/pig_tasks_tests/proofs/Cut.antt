-- The outputs of the map tasks of a node that sorts have one run each, in its directions; with slices in the place of these they still fit.
use Rattle.std.specs.Prelude.{◌≡◌, ℕ, List, [], ◌∷◌, length, Option, None, Some, slice_get, zero, suc, refl}
use Rattle.std.proofs.Common.{ap, sym, ◌∙◌, inr, subst}
use Rattle.std.specs.List.{AllByRecursion, range_with_len}
use Rattle.std.proofs.lemmas.List.{length-map}
use Rattle.std.proofs.lemmas.List.FromFn.{length-range_with_len}
use Rattle.pig_value.proofs.list_laws.Listing.{each-filter, each-map, each_of_all, each_weaker, some_same}
use Rattle.pig_value.specs.declared.operators.Dir.{Dir}
use Rattle.pig_plan.specs.Entries.{sort_keys}
use Rattle.pig_plan.specs.Nodes.{op_at}
use Rattle.pig_plan.specs.Plans.{PlanOp, p_load, p_filter, p_foreach, p_group_all, p_group, p_join, p_union, p_distinct, p_order, p_limit, p_store, p_assert, p_rank}
use Rattle.pig_typed.specs.declared.blocks.SortKey.{SortKey}
use Rattle.pig_runs.specs.Cutting.{Point, in_slice, slice_of}
use Rattle.pig_runs.specs.Entries.{InDirections}
use Rattle.pig_physical.specs.Fitting.{EntryFits, Fits, HasRuns, IsRunCount, MapFits, RunFits, run_dirs}
use Rattle.pig_physical.specs.Outs.{Form, TaskOut, o_runs, runs_in}
use Rattle.pig_physical.specs.Sliced.{slices_of}
use Rattle.pig_physical.specs.Stages.{Stages, Task, t_map, t_rank, t_reduce}
use Rattle.pig_driver.specs.Slicing.{AreDirected, AreSliced, EachSliced, IsSlicedAs}
use Rattle.pig_tasks_tests.specs.Fits.{FitsAt, GoesTo, IsSorting, WaveFits}

each_place : {X : Type 0} (P : X → Type 0) (xs : List X) → ((i : ℕ) (x : X) → slice_get xs i ≡ Some x → P x) → AllByRecursion P xs
each_place P [] h = tt
each_place P (x ∷ xs) h = (h 0 x refl, each_place P xs (λ i y at. h (suc i) y at))

-- what an output was cut from
record CutFrom (n : ℕ) (points : List Point) (olds : List TaskOut) (at : ℕ) (new : TaskOut) : Type 0 where
  pub old : TaskOut
  pub stands : slice_get olds at ≡ Some old
  pub run : InDirections
  pub is : IsSlicedAs n points run new old

cut_at : (n : ℕ) (points : List Point) (runs : List InDirections) (news olds : List TaskOut) → EachSliced n points runs news olds
    → (at : ℕ) (new : TaskOut) → slice_get news at ≡ Some new → CutFrom n points olds at new
cut_at n points [] [] [] h at new by = absurd (let e : None ≡ Some new = by in cc)
cut_at n points [] [] (y ∷ ys) h at new by = absurd h
cut_at n points [] (x ∷ xs) ys h at new by = absurd h
cut_at n points (r ∷ runs) [] ys h at new by = absurd h
cut_at n points (r ∷ runs) (x ∷ xs) [] h at new by = absurd h
cut_at n points (r ∷ runs) (x ∷ xs) (y ∷ ys) h zero new by =
    record { old = y; stands = refl; run = r; is = subst (λ z. IsSlicedAs n points r z y) (some_same x new by) h.0 }
cut_at n points (r ∷ runs) (x ∷ xs) (y ∷ ys) h (suc at) new by =
    let found = cut_at n points runs xs ys h.1 at new by in
    record { old = found.old; stands = found.stands; run = found.run; is = found.is }

-- what is handed to a node that sorts are runs
record Handed (s : Stages) (k : ℕ) (o : PlanOp) (i : ℕ) (form : Form) : Type 0 where
  pub runs_of : MapFits s k o i form → HasRuns s k o form
  pub fits_as : HasRuns s k o form → MapFits s k o i form

no_keys : (keys : List SortKey) → None ≡ Some keys → ⊥
no_keys keys e = absurd (let none : ◌≡◌ {A = Option (List SortKey)} None (Some keys) = e in cc)

handed : (s : Stages) (k : ℕ) (o : PlanOp) (keys : List SortKey) → sort_keys o ≡ Some keys → (i : ℕ) (form : Form) → Handed s k o i form
handed s k (p_order input by) keys is i form = record { runs_of = λ h. h; fits_as = λ h. h }
handed s k (p_rank input by dense) keys is i form = record { runs_of = λ h. h; fits_as = λ h. h }
handed s k (p_load path delim columns) keys is i form = absurd (no_keys keys is)
handed s k (p_filter input cond) keys is i form = absurd (no_keys keys is)
handed s k (p_foreach input block) keys is i form = absurd (no_keys keys is)
handed s k (p_group_all input) keys is i form = absurd (no_keys keys is)
handed s k (p_group inputs) keys is i form = absurd (no_keys keys is)
handed s k (p_join inputs side replicated) keys is i form = absurd (no_keys keys is)
handed s k (p_union inputs) keys is i form = absurd (no_keys keys is)
handed s k (p_distinct input) keys is i form = absurd (no_keys keys is)
handed s k (p_limit input count) keys is i form = absurd (no_keys keys is)
handed s k (p_store input path delim) keys is i form = absurd (no_keys keys is)
handed s k (p_assert input cond message) keys is i form = absurd (no_keys keys is)

module _ (s : Stages) (w : ℕ) (sorting : IsSorting s w) where
  abbrev op : PlanOp
  op = sorting.order.op

  abbrev ds : List Dir
  ds = run_dirs op

  to_node : (i : ℕ) (form : Form) → Handed s sorting.node op i form
  to_node = handed s sorting.node op sorting.order.keys sorting.order.sorts

  own_op : (k : ℕ) → k ≡ sorting.node → op_at s.plan k ≡ Some op
  own_op k is = ap (op_at s.plan) is ∙ sorting.order.at

  runs_by : (o : TaskOut) (task : Task) → GoesTo sorting.node task → Fits s task o → HasRuns s sorting.node op o.form
  runs_by o (t_map t) goes fits = (to_node t.way.input o.form).runs_of (subst (λ k. MapFits s k op t.way.input o.form) goes (fits op (own_op t.node goes)))
  runs_by o (t_reduce t) goes fits = absurd goes
  runs_by o (t_rank t) goes fits = absurd goes

  runs_at : (at : ℕ) (o : TaskOut) → FitsAt s w at o → HasRuns s sorting.node op o.form
  runs_at at o fits = runs_by o fits.task (sorting.all at fits.task fits.is_of) fits.fits

  all_directed : (form : Form) → HasRuns s sorting.node op form → AllByRecursion (λ run. run.dirs ≡ ds) (runs_in form)
  all_directed form h =
      subst (λ f. AllByRecursion (λ run. run.dirs ≡ ds) (runs_in f)) (sym h.is)
      (each_weaker (RunFits s.plan sorting.node op) (λ run. run.dirs ≡ ds) (λ run fits. fits.dirs) h.runs h.each)

  pub directed : (outs : List TaskOut) → WaveFits s w outs → AreDirected outs
  directed outs fit = record {
    dirs = ds;
    all = each_place (λ o. AllByRecursion (λ run. run.dirs ≡ ds) (runs_in o.form)) outs (λ at o by. all_directed o.form (runs_at at o (fit at o by)));
  }

  slices_fit : (run : InDirections) (points : List Point) (n : ℕ) → RunFits s.plan sorting.node op run → AllByRecursion (RunFits s.plan sorting.node op) (slices_of run points n)
  slices_fit run points n h =
      each-map (RunFits s.plan sorting.node op) (λ p. record { dirs = run.dirs; entries = slice_of run.dirs points p run.entries }) (range_with_len 0 n)
      (each_of_all (λ p. RunFits s.plan sorting.node op (record { dirs = run.dirs; entries = slice_of run.dirs points p run.entries }))
      (λ p. record { dirs = h.dirs; entries = each-filter (in_slice run.dirs points p) (EntryFits s.plan sorting.node op) run.entries h.entries }) (range_with_len 0 n))

  run_fits : (form : Form) (run : InDirections) → form ≡ o_runs (run ∷ []) → HasRuns s sorting.node op form → RunFits s.plan sorting.node op run
  run_fits form run was h = (subst (AllByRecursion (RunFits s.plan sorting.node op)) (ap runs_in (sym h.is ∙ was)) h.each).0

  cut_runs : (points : List Point) (run : InDirections) (new old : TaskOut) → IsSlicedAs s.sizing.reducers points run new old → HasRuns s sorting.node op old.form
      → HasRuns s sorting.node op new.form
  cut_runs points run new old is h = record {
    runs = slices_of run points s.sizing.reducers;
    is = is.form;
    count = subst (λ found. IsRunCount s.sizing.reducers found (length (slices_of run points s.sizing.reducers))) (sym sorting.order.sorts)
        (inr (length-map {B = InDirections} (range_with_len 0 s.sizing.reducers) (λ p. record { dirs = run.dirs; entries = slice_of run.dirs points p run.entries }) ∙ length-range_with_len 0 s.sizing.reducers));
    each = slices_fit run points s.sizing.reducers (run_fits old.form run is.was h);
  }

  fits_by : (o : TaskOut) (task : Task) → GoesTo sorting.node task → HasRuns s sorting.node op o.form → Fits s task o
  fits_by o (t_map t) goes h = λ p at.
      subst (λ q. MapFits s t.node q t.way.input o.form) (some_same op p (sym (own_op t.node goes) ∙ at))
      (subst (λ k. MapFits s k op t.way.input o.form) (sym goes) ((to_node t.way.input o.form).fits_as h))
  fits_by o (t_reduce t) goes h = absurd goes
  fits_by o (t_rank t) goes h = absurd goes

  pub cut_fits : (olds news : List TaskOut) → WaveFits s w olds → AreSliced s.sizing.reducers olds news → WaveFits s w news
  cut_fits olds news fit cut = λ at new by.
      let from = cut_at s.sizing.reducers cut.points cut.runs news olds cut.each at new by in
      let old = fit at from.old from.stands in
      record {
        task = old.task;
        is_of = old.is_of;
        fits = fits_by new old.task (sorting.all at old.task old.is_of) (cut_runs cut.points from.run new from.old from.is (runs_at at from.old old));
      }
