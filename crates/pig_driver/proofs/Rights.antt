-- Right outputs of a wave's tasks, cut where the wave sorts, stand for the next waves and are the values of the tasks.
use Rattle.std.specs.Prelude.{◌≡◌, ◌<◌, ◌+◌, ◌-◌, ◌⊎◌, ℕ, true, false, List, [], ◌∷◌, ◌++◌, length, map, Option, Some, None, slice_get, zero, suc, refl}
use Rattle.std.proofs.Common.{ap, sym, ◌∙◌, arith, inl, inr, subst}
use Rattle.std.specs.List.{AllByRecursion, flat_map, range_with_len}
use Rattle.std.specs.Option.{option_map_or}
use Rattle.std.proofs.lemmas.List.{length-map}
use Rattle.std.proofs.lemmas.List.FromFn.{length-range_with_len}
use Rattle.std.proofs.lemmas.Option.{slice_get_within}
use Rattle.pig_value.proofs.list_laws.Bags.{sort_ascends}
use Rattle.pig_value.proofs.list_laws.Indexing.{some_at}
use Rattle.pig_value.proofs.list_laws.Listing.{each-filter, each-map, each_at, each_of_all, each_weaker, some_same}
use Rattle.pig_value.specs.declared.inputs.Input.{Input}
use Rattle.pig_value.specs.declared.operators.Dir.{Dir}
use Rattle.pig_value.specs.Elementwise.{Each}
use Rattle.pig_value.specs.Gathering.{Entry}
use Rattle.pig_value.specs.Sorts.{Ascends, sort}
use Rattle.pig_value.specs.Trees.{Tree}
use Rattle.pig_typed.specs.declared.blocks.SortKey.{SortKey}
use Rattle.pig_plan.specs.Entries.{dirs_of, entries_of, sort_keys}
use Rattle.pig_plan.specs.Nodes.{op_at}
use Rattle.pig_plan.specs.Plans.{Plan, PlanOp, p_load, p_filter, p_foreach, p_group_all, p_group, p_join, p_union, p_distinct, p_order, p_limit, p_store, p_assert, p_rank}
use Rattle.pig_plan.specs.Valid.{IsPlan}
use Rattle.pig_runs.proofs.Order.{run_total}
use Rattle.pig_runs.proofs.Parted.{slices_join}
use Rattle.pig_runs.specs.Cutting.{Point, cut_point, cut_points, dirs_of_all, in_slice, point_cmp, slice_of}
use Rattle.pig_runs.specs.Entries.{InDirections, entries_of_all, run_cmp, run_of}
use Rattle.pig_physical.specs.Fitting.{EntryFits, Fits, HasRuns, IsRunCount, MapFits, RunFits, run_dirs}
use Rattle.pig_physical.specs.Outs.{Form, Outs, TaskOut, entries_held, o_runs, runs_in}
use Rattle.pig_physical.specs.Running.{AreCuts}
use Rattle.pig_physical.specs.Seen.{Reads}
use Rattle.pig_physical.specs.Sliced.{slices_of}
use Rattle.pig_physical.specs.Stages.{MapTask, Stages, Task, head_of, heads, map_tasks, t_map, t_rank, t_reduce, tasks_in, ways_into}
use Rattle.pig_physical.specs.Values.{IsMapForm, IsValue, handed_on, slices, task_rows}
use Rattle.pig_physical.specs.declared.parts.Part.{Part}
use Rattle.pig_physical.specs.declared.parts.Part.TheVariants as parts
use Rattle.pig_physical.specs.declared.waves.WaveKind.TheVariants as kinds
use Rattle.pig_waves.proofs.Tasks.{name_node}
use Rattle.pig_work.specs.Working.{IsRight, TaskReads, Tellings}
use Rattle.pig_driver.specs.Going.{AllTell}
use Rattle.pig_driver.specs.Slicing.{AreDirected, AreSliced, EachSliced, IsSlicedAs}
use Rattle.pig_driver.specs.Standing.{IsSliced}
use Rattle.pig_driver.proofs.Sorting.{IsPlain, IsSorting, Unsorted}
use Rattle.pig_driver.proofs.Standing.{its_waves, op_here}
use Rattle.pig_driver.proofs.Values.{AreNew}

-- ---- two lists by their places

pub each_from : {X Y : Type 0} (P : X → Y → Type 0) (xs : List X) (ys : List Y) → length ys ≡ length xs
    → ((i : ℕ) (x : X) (y : Y) → slice_get xs i ≡ Some x → slice_get ys i ≡ Some y → P x y) → Each P xs ys
each_from P [] [] size h = tt
each_from P [] (y ∷ ys) size h = absurd (omega (arith, size))
each_from P (x ∷ xs) [] size h = absurd (omega (arith, size))
each_from P (x ∷ xs) (y ∷ ys) size h = (h 0 x y refl refl, each_from P xs ys (omega (arith, size)) (λ i u v at by. h (suc i) u v at by))

all_from : {X : Type 0} (P : X → Type 0) (xs : List X) → ((i : ℕ) (x : X) → slice_get xs i ≡ Some x → P x) → AllByRecursion P xs
all_from P [] h = tt
all_from P (x ∷ xs) h = (h 0 x refl, all_from P xs (λ i y at. h (suc i) y at))

-- ---- forms whose node sorts nothing

form_any : (s : Stages) (points : List Point) (outs : Outs) (k : ℕ) (o : PlanOp) (i : ℕ) (rows : List (List Tree)) (form : Form) → sort_keys o ≡ None
    → IsMapForm s None outs k o i rows form → IsMapForm s (Some points) outs k o i rows form
form_any s points outs k (p_load path delim columns) i rows form none h = h
form_any s points outs k (p_filter input test) i rows form none h = h
form_any s points outs k (p_foreach input block) i rows form none h = h
form_any s points outs k (p_group_all input) i rows form none h = h
form_any s points outs k (p_group inputs) i rows form none h = h
form_any s points outs k (p_join inputs side true) i rows form none h = h
form_any s points outs k (p_join inputs side false) i rows form none h = h
form_any s points outs k (p_union inputs) i rows form none h = h
form_any s points outs k (p_distinct input) i rows form none h = h
form_any s points outs k (p_order input keys) i rows form none h = absurd (let e : Some keys ≡ None = none in cc)
form_any s points outs k (p_limit input count) i rows form none h = h
form_any s points outs k (p_store input path delim) i rows form none h = h
form_any s points outs k (p_assert input test message) i rows form none h = h
form_any s points outs k (p_rank input keys dense) i rows form none h = absurd (let e : Some keys ≡ None = none in cc)

-- ---- forms of a node that sorts

-- what a node that sorts hands on is runs
sorted_fits : (s : Stages) (k : ℕ) (o : PlanOp) (i : ℕ) (keys : List SortKey) (form : Form) → sort_keys o ≡ Some keys → MapFits s k o i form → HasRuns s k o form
sorted_fits s k (p_load path delim columns) i keys form by h = h
sorted_fits s k (p_filter input test) i keys form by h = h
sorted_fits s k (p_foreach input block) i keys form by h = h
sorted_fits s k (p_group_all input) i keys form by h = h
sorted_fits s k (p_group inputs) i keys form by h = h
sorted_fits s k (p_join inputs side replicated) i keys form by h = absurd (let e : None ≡ Some keys = by in cc)
sorted_fits s k (p_union inputs) i keys form by h = h
sorted_fits s k (p_distinct input) i keys form by h = h
sorted_fits s k (p_order input sorting) i keys form by h = h
sorted_fits s k (p_limit input count) i keys form by h = absurd (let e : None ≡ Some keys = by in cc)
sorted_fits s k (p_store input path delim) i keys form by h = absurd (let e : None ≡ Some keys = by in cc)
sorted_fits s k (p_assert input test message) i keys form by h = h
sorted_fits s k (p_rank input sorting dense) i keys form by h = h

fits_sorted : (s : Stages) (k : ℕ) (o : PlanOp) (i : ℕ) (keys : List SortKey) (form : Form) → sort_keys o ≡ Some keys → HasRuns s k o form → MapFits s k o i form
fits_sorted s k (p_load path delim columns) i keys form by h = h
fits_sorted s k (p_filter input test) i keys form by h = h
fits_sorted s k (p_foreach input block) i keys form by h = h
fits_sorted s k (p_group_all input) i keys form by h = h
fits_sorted s k (p_group inputs) i keys form by h = h
fits_sorted s k (p_join inputs side replicated) i keys form by h = absurd (let e : None ≡ Some keys = by in cc)
fits_sorted s k (p_union inputs) i keys form by h = h
fits_sorted s k (p_distinct input) i keys form by h = h
fits_sorted s k (p_order input sorting) i keys form by h = h
fits_sorted s k (p_limit input count) i keys form by h = absurd (let e : None ≡ Some keys = by in cc)
fits_sorted s k (p_store input path delim) i keys form by h = absurd (let e : None ≡ Some keys = by in cc)
fits_sorted s k (p_assert input test message) i keys form by h = h
fits_sorted s k (p_rank input sorting dense) i keys form by h = h

-- the run of such a node, and its slices
sorted_form : (s : Stages) (points : Option (List Point)) (outs : Outs) (k : ℕ) (o : PlanOp) (keys : List SortKey) (i : ℕ) (rows : List (List Tree)) (form : Form) → sort_keys o ≡ Some keys
    → IsMapForm s points outs k o i rows form → form ≡ o_runs (slices points (dirs_of keys) (handed_on s.plan k o (entries_of o i rows)))
sorted_form s points outs k (p_load path delim columns) keys i rows form by h = absurd (let e : None ≡ Some keys = by in cc)
sorted_form s points outs k (p_filter input test) keys i rows form by h = absurd (let e : None ≡ Some keys = by in cc)
sorted_form s points outs k (p_foreach input block) keys i rows form by h = absurd (let e : None ≡ Some keys = by in cc)
sorted_form s points outs k (p_group_all input) keys i rows form by h = absurd (let e : None ≡ Some keys = by in cc)
sorted_form s points outs k (p_group inputs) keys i rows form by h = absurd (let e : None ≡ Some keys = by in cc)
sorted_form s points outs k (p_join inputs side replicated) keys i rows form by h = absurd (let e : None ≡ Some keys = by in cc)
sorted_form s points outs k (p_union inputs) keys i rows form by h = absurd (let e : None ≡ Some keys = by in cc)
sorted_form s points outs k (p_distinct input) keys i rows form by h = absurd (let e : None ≡ Some keys = by in cc)
sorted_form s points outs k (p_order input sorting) keys i rows form by h =
    h ∙ ap (λ ks. o_runs (slices points (dirs_of ks) (handed_on s.plan k (p_order input sorting) (entries_of (p_order input sorting) i rows)))) (some_same sorting keys by)
sorted_form s points outs k (p_limit input count) keys i rows form by h = absurd (let e : None ≡ Some keys = by in cc)
sorted_form s points outs k (p_store input path delim) keys i rows form by h = absurd (let e : None ≡ Some keys = by in cc)
sorted_form s points outs k (p_assert input test message) keys i rows form by h = absurd (let e : None ≡ Some keys = by in cc)
sorted_form s points outs k (p_rank input sorting dense) keys i rows form by h =
    h ∙ ap (λ ks. o_runs (slices points (dirs_of ks) (handed_on s.plan k (p_rank input sorting dense) (entries_of (p_rank input sorting dense) i rows)))) (some_same sorting keys by)

form_sorted : (s : Stages) (points : Option (List Point)) (outs : Outs) (k : ℕ) (o : PlanOp) (keys : List SortKey) (i : ℕ) (rows : List (List Tree)) (form : Form) → sort_keys o ≡ Some keys
    → form ≡ o_runs (slices points (dirs_of keys) (handed_on s.plan k o (entries_of o i rows))) → IsMapForm s points outs k o i rows form
form_sorted s points outs k (p_load path delim columns) keys i rows form by h = absurd (let e : None ≡ Some keys = by in cc)
form_sorted s points outs k (p_filter input test) keys i rows form by h = absurd (let e : None ≡ Some keys = by in cc)
form_sorted s points outs k (p_foreach input block) keys i rows form by h = absurd (let e : None ≡ Some keys = by in cc)
form_sorted s points outs k (p_group_all input) keys i rows form by h = absurd (let e : None ≡ Some keys = by in cc)
form_sorted s points outs k (p_group inputs) keys i rows form by h = absurd (let e : None ≡ Some keys = by in cc)
form_sorted s points outs k (p_join inputs side replicated) keys i rows form by h = absurd (let e : None ≡ Some keys = by in cc)
form_sorted s points outs k (p_union inputs) keys i rows form by h = absurd (let e : None ≡ Some keys = by in cc)
form_sorted s points outs k (p_distinct input) keys i rows form by h = absurd (let e : None ≡ Some keys = by in cc)
form_sorted s points outs k (p_order input sorting) keys i rows form by h =
    h ∙ ap (λ ks. o_runs (slices points (dirs_of ks) (handed_on s.plan k (p_order input sorting) (entries_of (p_order input sorting) i rows)))) (sym (some_same sorting keys by))
form_sorted s points outs k (p_limit input count) keys i rows form by h = absurd (let e : None ≡ Some keys = by in cc)
form_sorted s points outs k (p_store input path delim) keys i rows form by h = absurd (let e : None ≡ Some keys = by in cc)
form_sorted s points outs k (p_assert input test message) keys i rows form by h = absurd (let e : None ≡ Some keys = by in cc)
form_sorted s points outs k (p_rank input sorting dense) keys i rows form by h =
    h ∙ ap (λ ks. o_runs (slices points (dirs_of ks) (handed_on s.plan k (p_rank input sorting dense) (entries_of (p_rank input sorting dense) i rows)))) (sym (some_same sorting keys by))

one_run : (xs ys : List InDirections) → o_runs xs ≡ o_runs ys → xs ≡ ys
one_run xs ys h = ap runs_in h

own_run : (ds : List Dir) (es : List Entry) (run : InDirections) → o_runs (run ∷ []) ≡ o_runs (slices None ds es) → run ≡ run_of ds es
own_run ds es run is = first (one_run (run ∷ []) (run_of ds es ∷ []) is)
  where
    first : run ∷ [] ≡ run_of ds es ∷ [] → run ≡ run_of ds es
    first h = cc

-- the slices of the one run are those of its entries
slices_are : (n : ℕ) (points : List Point) (ds : List Dir) (es : List Entry) (run : InDirections) → length points + 1 ≡ n → o_runs (run ∷ []) ≡ o_runs (slices None ds es)
    → slices_of run points n ≡ slices (Some points) ds es
slices_are n points ds es run size is =
    ap (λ r. slices_of r points n) (own_run ds es run is)
    ∙ ap (λ m. map (λ p. record { dirs = ds; entries = slice_of ds points p (sort (run_cmp ds) es) }) (range_with_len 0 m)) (sym size)

-- the slices of a sorted run hold its entries, in their order
runs_made : (ds : List Dir) (f : ℕ → List Entry) (parts : List ℕ) → entries_of_all (map (λ p. record { dirs = ds; entries = f p }) parts) ≡ flat_map f parts
runs_made ds f [] = refl
runs_made ds f (p ∷ parts) = ap (λ more. f p ++ more) (runs_made ds f parts)

slices_whole : (n : ℕ) (points : List Point) (ds : List Dir) (es : List Entry) (run : InDirections) → run ≡ run_of ds es → Ascends (point_cmp ds) points → length points + 1 ≡ n
    → entries_of_all (slices_of run points n) ≡ run.entries
slices_whole n points ds es run own rise size =
    ap (λ r. entries_of_all (slices_of r points n)) own
    ∙ ap (λ m. entries_of_all (slices_of (run_of ds es) points m)) (sym size)
    ∙ runs_made ds (λ p. slice_of ds points p (sort (run_cmp ds) es)) (range_with_len 0 (length points + 1))
    ∙ slices_join ds points (sort (run_cmp ds) es) rise (sort_ascends (run_cmp ds) (run_total ds) es)
    ∙ sym (ap (λ r. r.entries) own)

-- the entries of a slice are some of the run's
slices_fit : (plan : Plan) (k : ℕ) (o : PlanOp) (run : InDirections) (points : List Point) (n : ℕ) → RunFits plan k o run → AllByRecursion (RunFits plan k o) (slices_of run points n)
slices_fit plan k o run points n h =
    each-map (RunFits plan k o) (λ p. record { dirs = run.dirs; entries = slice_of run.dirs points p run.entries }) (range_with_len 0 n)
    (each_of_all (λ p. RunFits plan k o (record { dirs = run.dirs; entries = slice_of run.dirs points p run.entries }))
    (λ p. record { dirs = h.dirs; entries = each-filter (in_slice run.dirs points p) (EntryFits plan k o) run.entries h.entries }) (range_with_len 0 n))

-- ---- outputs of a wave

module _ (s : Stages) (tellings : Tellings) (outs : Outs) (w : ℕ) where
  -- a right output of each task, in order
  pub record AreRight (found : List TaskOut) : Type 0 where
    pub count : length found ≡ length (tasks_in s w)
    pub right : (at : ℕ) (task : Task) (out : TaskOut) → slice_get (tasks_in s w) at ≡ Some task → slice_get found at ≡ Some out → IsRight s tellings outs task out

  part_read : (inputs : List Input) (part : Part) (told : Option (List Input)) → told ≡ Some inputs → Reads told part inputs
  part_read inputs (parts.Split split) told h = h
  part_read inputs (parts.Output v j) told h = tt

  task_read : (inputs : List Input) (task : Task) (told : Option (List Input)) → told ≡ Some inputs → TaskReads task inputs told
  task_read inputs (t_map t) told h = part_read inputs t.part told h
  task_read inputs (t_reduce t) told h = tt
  task_read inputs (t_rank t) told h = tt

  its_value : (inputs : List Input) → AllTell inputs tellings → (task : Task) (out : TaskOut) → IsRight s tellings outs task out → IsValue s inputs None outs task out
  its_value inputs told task out h = h.value inputs (each_weaker (λ t. t ≡ Some inputs) (TaskReads task inputs) (task_read inputs task) tellings told)

  module _ (valid : IsPlan s.plan) (within : w < length (heads s.plan)) (size : length outs ≡ w) (found : List TaskOut) (rights : AreRight found) where
    task_of_out : (at : ℕ) (out : TaskOut) → slice_get found at ≡ Some out → (task : Task) × (slice_get (tasks_in s w) at ≡ Some task)
    task_of_out at out by = let less = slice_get_within found at out by in let count = rights.count in some_at (tasks_in s w) at (omega (arith, less, count))

    -- ---- a wave that sorts nothing

    module _ (plain : IsPlain s valid w within) where
      any_points : (inputs : List Input) (points : List Point) (task : Task) (out : TaskOut) → Unsorted s valid w within task → IsValue s inputs None outs task out → IsValue s inputs (Some points) outs task out
      any_points inputs points (t_map t) out unsorted h = λ o at. let is = h o at in
          record { form = form_any s points outs t.node o t.way.input (task_rows s.plan inputs outs t) out.form (unsorted o at) is.form; lines = is.lines; unmet = is.unmet }
      any_points inputs points (t_reduce t) out unsorted h = h
      any_points inputs points (t_rank t) out unsorted h = h

      none_sliced : (tasks : List Task) → tasks_in s w ≡ tasks → tasks ≡ [] → AllByRecursion (IsSliced s) found
      none_sliced tasks e none = let count = rights.count in empty found (count ∙ ap length (e ∙ none))
        where
          empty : (xs : List TaskOut) → length xs ≡ 0 → AllByRecursion (IsSliced s) xs
          empty [] h = tt
          empty (x ∷ xs) h = absurd (omega (arith, h))

      pub plain_entries : (k : ℕ) (o : PlanOp) (keys : List SortKey) → slice_get (heads s.plan) w ≡ Some (head_of s.plan k kinds.Map) → op_at s.plan k ≡ Some o → sort_keys o ≡ Some keys
          → entries_held found ≡ []
      plain_entries k o keys head op by = empty found (rights.count ∙ ap length (plain.none k o keys head op by))
        where
          empty : (xs : List TaskOut) → length xs ≡ 0 → entries_held xs ≡ []
          empty [] h = refl
          empty (x ∷ xs) h = absurd (omega (arith, h))

      pub plain_new : AreNew s valid outs found w size within
      plain_new = record {
        count = rights.count;
        fit = λ at task out by is. (rights.right at task out by is).fits;
        sliced = λ k o keys head op by. none_sliced (tasks_in s w) refl (plain.none k o keys head op by);
      }

      pub plain_values : (inputs : List Input) → AllTell inputs tellings → (points : List Point) → Each (IsValue s inputs (Some points) outs) (tasks_in s w) found
      plain_values inputs told points =
          each_from (IsValue s inputs (Some points) outs) (tasks_in s w) found rights.count
          (λ at task out by is. any_points inputs points task out (each_at (Unsorted s valid w within) (tasks_in s w) at task by plain.tasks) (its_value inputs told task out (rights.right at task out by is)))

    -- ---- a wave that sorts

    module _ (sorting : IsSorting s valid w within) where
      abbrev node : ℕ
      node = sorting.k

      abbrev op : PlanOp
      op = sorting.is.node.op

      abbrev ds : List Dir
      ds = dirs_of sorting.keys

      op_known : op_at s.plan node ≡ Some op
      op_known = op_here s valid node sorting.is.node sorting.is.at

      abbrev IsMapOf : Task → Type 0
      IsMapOf (t_map t) = t.node ≡ node
      IsMapOf (t_reduce t) = ⊥
      IsMapOf (t_rank t) = ⊥

      all_maps : AllByRecursion IsMapOf (tasks_in s w)
      all_maps =
          subst (AllByRecursion IsMapOf) (sym (ap (tasks_in s) sorting.at ∙ (its_waves s valid node sorting.is sorting.by_key).maps))
          (each-map IsMapOf t_map (map_tasks s node op) (name_node s node (ways_into s.plan op)))

      own_op : (t : MapTask) → t.node ≡ node → op_at s.plan t.node ≡ Some op
      own_op t e = ap (op_at s.plan) e ∙ op_known

      -- an output of such a task is runs that fit
      out_runs : (task : Task) (out : TaskOut) → IsMapOf task → Fits s task out → HasRuns s node op out.form
      out_runs (t_map t) out of fits = sorted_fits s node op t.way.input sorting.keys out.form sorting.by (subst (λ n. MapFits s n op t.way.input out.form) of (fits op (own_op t of)))
      out_runs (t_reduce t) out of fits = absurd of
      out_runs (t_rank t) out of fits = absurd of

      runs_of_out : (at : ℕ) (out : TaskOut) → slice_get found at ≡ Some out → HasRuns s node op out.form
      runs_of_out at out by =
          let task = task_of_out at out by in
          out_runs task.0 out (each_at IsMapOf (tasks_in s w) at task.0 task.1 all_maps) (rights.right at task.0 out task.1 by).fits

      dirs_are : run_dirs op ≡ ds
      dirs_are = ap (λ keys. option_map_or dirs_of keys []) sorting.by

      all_directed : (form : Form) → HasRuns s node op form → AllByRecursion (λ run. run.dirs ≡ ds) (runs_in form)
      all_directed form h =
          subst (λ f. AllByRecursion (λ run. run.dirs ≡ ds) (runs_in f)) (sym h.is)
          (each_weaker (RunFits s.plan node op) (λ run. run.dirs ≡ ds) (λ run fits. fits.dirs ∙ dirs_are) h.runs h.each)

      pub directed : AreDirected found
      directed = record { dirs = ds; all = all_from (λ out. AllByRecursion (λ run. run.dirs ≡ ds) (runs_in out.form)) found (λ at out by. all_directed out.form (runs_of_out at out by)) }

      -- ---- cut

      module _ (some : 0 < s.sizing.reducers) (news : List TaskOut) (cut : AreSliced s.sizing.reducers found news) where
        abbrev n : ℕ
        n = s.sizing.reducers

        -- the run of an output, and what it was cut to
        pub record IsCutAt (at : ℕ) (new : TaskOut) : Type 0 where
          pub old : TaskOut
          pub stands : slice_get found at ≡ Some old
          pub run : InDirections
          pub is : IsSlicedAs n cut.points run new old

        cut_at : (runs : List InDirections) (xs ys : List TaskOut) → EachSliced n cut.points runs xs ys → (at : ℕ) (new : TaskOut) → slice_get xs at ≡ Some new
            → (old : TaskOut) × (slice_get ys at ≡ Some old) × ((run : InDirections) × IsSlicedAs n cut.points run new old)
        cut_at [] [] [] h at new by = absurd (let e : None ≡ Some new = by in cc)
        cut_at [] [] (y ∷ ys) h at new by = absurd h
        cut_at [] (x ∷ xs) ys h at new by = absurd h
        cut_at (r ∷ runs) [] ys h at new by = absurd h
        cut_at (r ∷ runs) (x ∷ xs) [] h at new by = absurd h
        cut_at (r ∷ runs) (x ∷ xs) (y ∷ ys) h zero new by = (y, refl, (r, subst (λ z. IsSlicedAs n cut.points r z y) (some_same x new by) h.0))
        cut_at (r ∷ runs) (x ∷ xs) (y ∷ ys) h (suc at) new by = cut_at runs xs ys h.1 at new by

        new_at : (at : ℕ) (new : TaskOut) → slice_get news at ≡ Some new → IsCutAt at new
        new_at at new by = let h = cut_at cut.runs news found cut.each at new by in record { old = h.0; stands = h.1; run = h.2.0; is = h.2.1 }

        sizes : (runs : List InDirections) (xs ys : List TaskOut) → EachSliced n cut.points runs xs ys → length xs ≡ length ys
        sizes [] [] [] h = refl
        sizes [] [] (y ∷ ys) h = absurd h
        sizes [] (x ∷ xs) ys h = absurd h
        sizes (r ∷ runs) [] ys h = absurd h
        sizes (r ∷ runs) (x ∷ xs) [] h = absurd h
        sizes (r ∷ runs) (x ∷ xs) (y ∷ ys) h = ap suc (sizes runs xs ys h.1)

        count : length news ≡ length (tasks_in s w)
        count = sizes cut.runs news found cut.each ∙ rights.count

        -- the runs have the node's directions, so that the points ascend in them
        run_fits : (form : Form) (run : InDirections) → form ≡ o_runs (run ∷ []) → HasRuns s node op form → RunFits s.plan node op run
        run_fits form run was h = (subst (AllByRecursion (RunFits s.plan node op)) (one_run h.runs (run ∷ []) (sym h.is ∙ was)) h.each).0

        first_dirs : (runs : List InDirections) (xs ys : List TaskOut) → EachSliced n cut.points runs xs ys → ((at : ℕ) (y : TaskOut) → slice_get ys at ≡ Some y → HasRuns s node op y.form)
            → (runs ≡ []) ⊎ (dirs_of_all runs ≡ ds)
        first_dirs [] xs ys h fits = inl refl
        first_dirs (r ∷ runs) [] ys h fits = absurd h
        first_dirs (r ∷ runs) (x ∷ xs) [] h fits = absurd h
        first_dirs (r ∷ runs) (x ∷ xs) (y ∷ ys) h fits = inr ((run_fits y.form r h.0.was (fits 0 y refl)).dirs ∙ dirs_are)

        sorted_in : (runs : List InDirections) → (runs ≡ []) ⊎ (dirs_of_all runs ≡ ds) → sort (run_cmp (dirs_of_all runs)) (entries_of_all runs) ≡ sort (run_cmp ds) (entries_of_all runs)
        sorted_in runs either = elim either [
          | inl none ↦ subst (λ rs. sort (run_cmp (dirs_of_all rs)) (entries_of_all rs) ≡ sort (run_cmp ds) (entries_of_all rs)) (sym none) refl
          | inr same ↦ ap (λ dirs. sort (run_cmp dirs) (entries_of_all runs)) same
        ]

        -- the points cut the runs' entries in the node's directions
        points_are : cut.points ≡ cut_points n (sort (run_cmp ds) (entries_of_all cut.runs))
        points_are = cut.are ∙ ap (cut_points n) (sorted_in cut.runs (first_dirs cut.runs news found cut.each (λ at y by. runs_of_out at y by)))

        points_many : length cut.points + 1 ≡ n
        points_many = let l = ap length cut.are ∙ length-map (range_with_len 0 (n - 1)) (cut_point n _) ∙ length-range_with_len 0 (n - 1) in omega (arith, l, some)

        abbrev pub PointsRise : Type 0
        PointsRise = (dirs : List Dir) (n : ℕ) (es : List Entry) → 0 < n → Ascends (run_cmp dirs) es → Ascends (point_cmp dirs) (cut_points n es)

        -- the slices of all outputs hold what their runs held
        slices_hold : (runs : List InDirections) (xs ys : List TaskOut) → EachSliced n cut.points runs xs ys → Ascends (point_cmp ds) cut.points
            → ((at : ℕ) (y : TaskOut) (run : InDirections) → slice_get ys at ≡ Some y → y.form ≡ o_runs (run ∷ []) → (es : List Entry) × (run ≡ run_of ds es)) → entries_held xs ≡ entries_of_all runs
        slices_hold [] [] [] h rise own = refl
        slices_hold [] [] (y ∷ ys) h rise own = absurd h
        slices_hold [] (x ∷ xs) ys h rise own = absurd h
        slices_hold (r ∷ runs) [] ys h rise own = absurd h
        slices_hold (r ∷ runs) (x ∷ xs) [] h rise own = absurd h
        slices_hold (r ∷ runs) (x ∷ xs) (y ∷ ys) h rise own =
            let sorted = own 0 y r refl h.0.was in
            let first : entries_of_all (runs_in x.form) ≡ r.entries =
            ap (λ form. entries_of_all (runs_in form)) h.0.form ∙ slices_whole n cut.points ds sorted.0 r sorted.1 rise points_many in
            let more = slices_hold runs xs ys h.1 rise (λ at z run by was. own (suc at) z run by was) in
            λ i. first i ++ more i

        module _ (inputs : List Input) (told : AllTell inputs tellings) where
          -- the run of an output is sorted
          run_sorted : (at : ℕ) (old : TaskOut) (run : InDirections) → slice_get found at ≡ Some old → old.form ≡ o_runs (run ∷ []) → (es : List Entry) × (run ≡ run_of ds es)
          run_sorted at old run stands was =
              let task = task_of_out at old stands in
              of_task task.0 task.1 (each_at IsMapOf (tasks_in s w) at task.0 task.1 all_maps)
            where
              of_task : (task : Task) → slice_get (tasks_in s w) at ≡ Some task → IsMapOf task → (es : List Entry) × (run ≡ run_of ds es)
              of_task (t_map t) by of =
                  let value = its_value inputs told (t_map t) old (rights.right at (t_map t) old by stands) op (own_op t of) in
                  let rows = task_rows s.plan inputs outs t in
                  let es = handed_on s.plan t.node op (entries_of op t.way.input rows) in
                  (es, own_run ds es run (sym was ∙ sorted_form s None outs t.node op sorting.keys t.way.input rows old.form sorting.by value.form))
              of_task (t_reduce t) by of = absurd of
              of_task (t_rank t) by of = absurd of

          pub are_cuts : PointsRise → AreCuts n ds (entries_held news) cut.points
          are_cuts rise =
              let all = entries_of_all cut.runs in
              let up : Ascends (point_cmp ds) cut.points =
              subst (Ascends (point_cmp ds)) (sym points_are) (rise ds n (sort (run_cmp ds) all) some (sort_ascends (run_cmp ds) (run_total ds) all)) in
              record {
                count = points_many;
                ascend = up;
                are = points_are ∙ ap (λ es. cut_points n (sort (run_cmp ds) es)) (sym (slices_hold cut.runs news found cut.each up run_sorted));
              }

        -- ---- what it then is

        new_fits : (at : ℕ) (task : Task) (new : TaskOut) → slice_get (tasks_in s w) at ≡ Some task → slice_get news at ≡ Some new → Fits s task new
        new_fits at task new by is = of_task task (each_at IsMapOf (tasks_in s w) at task by all_maps)
          where
            of_task : (task : Task) → IsMapOf task → Fits s task new
            of_task (t_map t) of = λ o known.
                let cut_is = new_at at new is in
                let h = runs_of_out at cut_is.old cut_is.stands in
                let same : o ≡ op = some_same o op (sym known ∙ own_op t of) in
                subst (λ p. MapFits s t.node p t.way.input new.form) (sym same) (subst (λ k. MapFits s k op t.way.input new.form) (sym of)
                (fits_sorted s node op t.way.input sorting.keys new.form sorting.by
                (record {
                  runs = slices_of cut_is.run cut.points n;
                  is = cut_is.is.form;
                  count = subst (λ found. IsRunCount n found (length (slices_of cut_is.run cut.points n))) (sym sorting.by) (inr (many cut_is.run));
                  each = slices_fit s.plan node op cut_is.run cut.points n (run_fits cut_is.old.form cut_is.run cut_is.is.was h);
                })))
              where
                many : (run : InDirections) → length (slices_of run cut.points n) ≡ n
                many run = length-map (range_with_len 0 n) _ ∙ length-range_with_len 0 n
            of_task (t_reduce t) of = absurd of
            of_task (t_rank t) of = absurd of

        new_sliced : AllByRecursion (IsSliced s) news
        new_sliced = all_from (IsSliced s) news (λ at new by. (let cut_is = new_at at new by in
            ap (λ form. length (runs_in form)) cut_is.is.form ∙ length-map (range_with_len 0 n) _ ∙ length-range_with_len 0 n))

        pub sliced_new : AreNew s valid outs news w size within
        sliced_new = record { count = count; fit = new_fits; sliced = λ k o keys head known by. new_sliced }

        module _ (inputs : List Input) (told : AllTell inputs tellings) where
          new_value : (at : ℕ) (task : Task) (new : TaskOut) → slice_get (tasks_in s w) at ≡ Some task → slice_get news at ≡ Some new → IsMapOf task → IsValue s inputs (Some cut.points) outs task new
          new_value at (t_map t) new by is of = λ o known.
              let cut_is = new_at at new is in
              let old = its_value inputs told (t_map t) cut_is.old (rights.right at (t_map t) cut_is.old by cut_is.stands) o known in
              let same : sort_keys o ≡ Some sorting.keys = ap sort_keys (some_same o op (sym known ∙ own_op t of)) ∙ sorting.by in
              let rows = task_rows s.plan inputs outs t in
              let es = handed_on s.plan t.node o (entries_of o t.way.input rows) in
              let one : o_runs (cut_is.run ∷ []) ≡ o_runs (slices None ds es) = sym cut_is.is.was ∙ sorted_form s None outs t.node o sorting.keys t.way.input rows cut_is.old.form same old.form in
              record {
                form = form_sorted s (Some cut.points) outs t.node o sorting.keys t.way.input rows new.form same
                    (cut_is.is.form ∙ ap o_runs (slices_are n cut.points ds es cut_is.run points_many one));
                lines = cut_is.is.lines ∙ old.lines;
                unmet = cut_is.is.unmet ∙ old.unmet;
              }
          new_value at (t_reduce t) new by is of = absurd of
          new_value at (t_rank t) new by is of = absurd of

          pub sliced_values : Each (IsValue s inputs (Some cut.points) outs) (tasks_in s w) news
          sliced_values = each_from (IsValue s inputs (Some cut.points) outs) (tasks_in s w) news count
              (λ at task new by is. new_value at task new by is (each_at IsMapOf (tasks_in s w) at task by all_maps))
