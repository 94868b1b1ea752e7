-- Outputs that fit, one by one and wave by wave, and what tasks name among them.
use Rattle.std.specs.Prelude.{◌≡◌, ◌+◌, ◌++◌, ◌⊎◌, ℕ, true, false, List, [], ◌∷◌, length, map, None, Some, slice_get, zero, suc, refl}
use Rattle.std.proofs.Common.{ap, sym, ◌∙◌, arith, inl, inr, subst}
use Rattle.std.specs.List.{AllByRecursion}
use Rattle.std.specs.Option.{is_some, option_map, unwrap_or}
use Rattle.std.proofs.lemmas.List.{length-append, length-map, map-append}
use Rattle.std.proofs.lemmas.Option.{slice_get-map}
use Rattle.pig_value.proofs.list_laws.Indexing.{some_at}
use Rattle.pig_value.proofs.list_laws.Listing.{some_same}
use Rattle.pig_typed.specs.declared.blocks.SortKey.{SortKey}
use Rattle.pig_plan.specs.Entries.{sort_keys}
use Rattle.pig_plan.specs.Nodes.{op_at}
use Rattle.pig_plan.specs.Plans.{PlanOp}
use Rattle.pig_plan.specs.Results.{at_place}
use Rattle.pig_physical.specs.Fitting.{Fits, HasAll, HasOutput, HasWave}
use Rattle.pig_physical.specs.Handed.{out_of, outs_of}
use Rattle.pig_physical.specs.Outs.{TaskOut, outs_at, runs_in}
use Rattle.pig_physical.specs.Seen.{IsOwn, IsTaskOf, map_task_of, no_way, task_of}
use Rattle.pig_physical.specs.Stages.{Stages, t_map, t_rank, t_reduce, tasks_in, ways_in}
use Rattle.pig_physical.specs.declared.outputs.Out as out
use Rattle.pig_physical.specs.declared.parts.MapTask as mapping
use Rattle.pig_physical.specs.declared.parts.ReduceTask.{ReduceTask}
use Rattle.pig_physical.specs.declared.parts.Task.TheVariants as tasks
use Rattle.pig_tasks_tests.specs.Fits.{AllFit, FitsAt}

-- ---- one more

-- what stands in a list with one more element
last_place : {X : Type 0} (xs : List X) (x y : X) (k : ℕ) → slice_get (xs ++ x ∷ []) k ≡ Some y → (slice_get xs k ≡ Some y) ⊎ ((k ≡ length xs) × (x ≡ y))
last_place [] x y zero h = inr (refl, some_same x y h)
last_place [] x y (suc k) h = absurd (let e : None ≡ Some y = h in cc)
last_place (z ∷ xs) x y zero h = inl h
last_place (z ∷ xs) x y (suc k) h = elim (last_place xs x y k h) [
  | inl e ↦ inl e
  | inr both ↦ inr (ap suc both.0, both.1)
]

pub longer : {X : Type 0} (xs next : List X) (x : X) (k : ℕ) → length xs ≡ k → next ≡ xs ++ x ∷ [] → length next ≡ k + 1
longer xs next x k size is = ap length is ∙ length-append xs (x ∷ []) ∙ ap (λ n. n + 1) size

-- a claim on what is seen of each element, at its place
pub one_more : {X Y : Type 0} (f : X → Y) (P : ℕ → Y → Type 0) (xs next : List X) (x : X) (k : ℕ) → length xs ≡ k → next ≡ xs ++ x ∷ []
    → ((i : ℕ) (y : Y) → slice_get (map f xs) i ≡ Some y → P i y) → P k (f x) → (i : ℕ) (y : Y) → slice_get (map f next) i ≡ Some y → P i y
one_more f P xs next x k size is so_far new i y h =
    let by : slice_get (map f xs ++ f x ∷ []) i ≡ Some y = sym (ap (λ zs. slice_get zs i) (ap (map f) is ∙ map-append f xs (x ∷ []))) ∙ h in
    elim (last_place (map f xs) (f x) y i by) [
      | inl e ↦ so_far i y e
      | inr both ↦ subst (P i) both.1 (subst (λ j. P j (f x)) (sym (both.0 ∙ length-map xs f ∙ size)) new)
    ]

pub none_yet : {Y : Type 0} (P : ℕ → Y → Type 0) (i : ℕ) (y : Y) → slice_get [] i ≡ Some y → P i y
none_yet P i y h = absurd (let e : None ≡ Some y = h in cc)

-- ---- what an attempt gives

pub map_fits : (s : Stages) (w at : ℕ) (t : mapping.MapTask) → slice_get (tasks_in s w) at ≡ Some (task_of (ways_in s.plan w) (tasks.Map t))
    → IsOwn w (length (ways_in s.plan w)) (tasks.Map t) → (o : TaskOut) → Fits s (t_map (map_task_of s t)) o → FitsAt s w at o
map_fits s w at t stands own o fits = record {
  task = task_of (ways_in s.plan w) (tasks.Map t);
  is_of = stands;
  fits = subst (λ u. Fits s u o) (ap (λ v. t_map (record { node = t.node; way = at_place no_way (ways_in s.plan v) t.way; part = t.part })) own.0) fits;
}

pub reduce_fits_at : (s : Stages) (w at : ℕ) (t : ReduceTask) → slice_get (tasks_in s w) at ≡ Some (task_of (ways_in s.plan w) (tasks.Reduce t))
    → (o : TaskOut) → Fits s (t_reduce t) o → FitsAt s w at o
reduce_fits_at s w at t stands o fits = record { task = t_reduce t; is_of = stands; fits = fits }

pub rank_fits_at : (s : Stages) (w at : ℕ) (t : ReduceTask) → slice_get (tasks_in s w) at ≡ Some (task_of (ways_in s.plan w) (tasks.Rank t))
    → (o : TaskOut) → Fits s (t_rank t) o → FitsAt s w at o
rank_fits_at s w at t stands o fits = record { task = t_rank t; is_of = stands; fits = fits }

-- ---- what stands

module _ (s : Stages) (prior : List (List out.Out)) (w : ℕ) (outs : List out.Out) (stands : slice_get prior w ≡ Some outs) where
  wave_seen : slice_get (outs_of prior) w ≡ Some (map out_of outs)
  wave_seen = slice_get-map (map out_of) prior w ∙ ap (option_map (map out_of)) stands

  outs_seen : outs_at (outs_of prior) w ≡ map out_of outs
  outs_seen = ap (λ found. unwrap_or found []) wave_seen

  pub has_output : AllFit s (outs_of prior) → (at : ℕ) (o : out.Out) → slice_get outs at ≡ Some o → HasOutput s (outs_of prior) w at
  has_output all at o by =
      let seen : slice_get (map out_of outs) at ≡ Some (out_of o) = slice_get-map out_of outs at ∙ ap (option_map out_of) by in
      let fits = all w (map out_of outs) wave_seen at (out_of o) seen in
      record { out = out_of o; task = fits.task; stands = ap (λ xs. slice_get xs at) outs_seen ∙ seen; is_of = fits.is_of; fits = fits.fits }

pub has_all : (s : Stages) (prior : List (List out.Out)) (w : ℕ) (outs : List out.Out) → slice_get prior w ≡ Some outs → AllFit s (outs_of prior)
    → length outs ≡ length (tasks_in s w) → HasAll s (outs_of prior) w
has_all s prior w outs stands all size = record {
  count = ap length (outs_seen s prior w outs stands) ∙ length-map outs out_of ∙ size;
  each = λ at less. let found = some_at outs at (omega (arith, less, size)) in has_output s prior w outs stands all at found.0 found.1;
}

-- the runs for a node that sorts are sliced
abbrev pub AreSlicedFor : Stages → ℕ → List out.Out → Type 0
AreSlicedFor s k outs = (o : PlanOp) (keys : List SortKey) → op_at s.plan k ≡ Some o → sort_keys o ≡ Some keys
    → AllByRecursion (λ x. length (runs_in x.form) ≡ s.sizing.reducers) (map out_of outs)

pub unsorted : (s : Stages) (k : ℕ) (p : PlanOp) → op_at s.plan k ≡ Some p → is_some (sort_keys p) ≡ false → (outs : List out.Out) → AreSlicedFor s k outs
unsorted s k p at none outs o keys by has =
    absurd (let e : true ≡ false = sym (ap is_some (ap sort_keys (some_same p o (sym at ∙ by)) ∙ has)) ∙ none in cc)

pub has_wave : (s : Stages) (prior : List (List out.Out)) (t : ReduceTask) (outs : List out.Out) → slice_get prior t.wave ≡ Some outs → AllFit s (outs_of prior)
    → length outs ≡ length (tasks_in s t.wave) → AreSlicedFor s t.node outs → HasWave s (outs_of prior) t
has_wave s prior t outs stands all size sliced = record {
  count = (has_all s prior t.wave outs stands all size).count;
  each = (has_all s prior t.wave outs stands all size).each;
  sliced = λ o keys at by. subst (AllByRecursion (λ x. length (runs_in x.form) ≡ s.sizing.reducers)) (sym (outs_seen s prior t.wave outs stands)) (sliced o keys at by);
}
