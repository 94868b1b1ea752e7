-- Outputs of further waves change nothing of what was said of those before, and the outputs of all waves are a run.
use Rattle.std.specs.Prelude.{◌≡◌, ◌<◌, ◌≤◌, ◌+◌, ℕ, true, List, [], ◌∷◌, ◌++◌, length, Option, Some, None, slice_get, zero, suc, refl}
use Rattle.std.proofs.Common.{ap, sym, ◌∙◌, arith, inl, inr, subst}
use Rattle.std.specs.List.{AllByRecursion}
use Rattle.std.specs.Option.{option_map_or, unwrap_or}
use Rattle.std.specs.Ordering.{nat_cmp}
use Rattle.std.proofs.Math.Nat.{eq-or-lt_of_le}
use Rattle.std.proofs.lemmas.List.{length-append}
use Rattle.pig_value.proofs.list_laws.Elementwise.{get-behind}
use Rattle.pig_value.proofs.list_laws.Indexing.{some_at}
use Rattle.pig_value.specs.declared.inputs.Input.{Input}
use Rattle.pig_value.specs.Elementwise.{Each}
use Rattle.pig_value.specs.Sorts.{sort}
use Rattle.pig_typed.specs.declared.blocks.SortKey.{SortKey}
use Rattle.pig_plan.specs.Asserts.{unmet_on}
use Rattle.pig_plan.specs.Entries.{dirs_of, sort_keys}
use Rattle.pig_plan.specs.Nodes.{is_live, op_at}
use Rattle.pig_plan.specs.Plans.{PlanOp, p_load, p_filter, p_foreach, p_group_all, p_group, p_join, p_union, p_distinct, p_order, p_limit, p_store, p_assert, p_rank}
use Rattle.pig_plan.specs.Results.{at_place}
use Rattle.pig_plan.specs.Steps.{through}
use Rattle.pig_plan.specs.Valid.{IsPlan}
use Rattle.pig_runs.specs.Cutting.{Point}
use Rattle.pig_physical.specs.Combining.{folds}
use Rattle.pig_physical.specs.Fitting.{Fits, HasOutput}
use Rattle.pig_physical.specs.Outs.{Outs, TaskOut, entries_held, outs_at, rows_in}
use Rattle.pig_physical.specs.Running.{AreCuts}
use Rattle.pig_physical.specs.Stages.{Stages, Task, first_wave, head_of, heads, t_map, t_rank, t_reduce, tasks_in}
use Rattle.pig_physical.specs.Values.{IsMapForm, IsRankForm, IsReduceForm, IsValue, part_rows, read_rows, source_rows, task_rows}
use Rattle.pig_physical.specs.declared.parts.Part.{Part}
use Rattle.pig_physical.specs.declared.parts.Part.TheVariants as parts
use Rattle.pig_physical.specs.declared.waves.WaveKind.TheVariants as kinds
use Rattle.pig_driver.specs.Going.{AreValues}
use Rattle.pig_driver.specs.Standing.{AreStanding, IsSliced}
use Rattle.pig_driver.proofs.Copies.{form_over}
use Rattle.pig_driver.proofs.Standing.{PartStands, TaskStands, tasks_stand}

-- ---- one more element

pub front_at : {X : Type 0} (nothing : X) (xs : List X) (x : X) (k : ℕ) → k < length xs → at_place nothing (xs ++ x ∷ []) k ≡ at_place nothing xs k
front_at nothing [] x k less = absurd (omega (arith, less))
front_at nothing (y ∷ xs) x zero less = refl
front_at nothing (y ∷ xs) x (suc k) less = front_at nothing xs x k (omega (arith, less))

pub last_at : {X : Type 0} (nothing : X) (xs : List X) (x : X) (k : ℕ) → k ≡ length xs → at_place nothing (xs ++ x ∷ []) k ≡ x
last_at nothing xs x k is =
    ap (at_place nothing (xs ++ x ∷ [])) (let e : k ≡ length xs + 0 = omega (arith, is) in e) ∙ ap (λ o. unwrap_or o nothing) (get-behind xs (x ∷ []) 0)

module _ (s : Stages) (valid : IsPlan s.plan) (outs : Outs) (new : List TaskOut) where
  abbrev longer : Outs
  longer = outs ++ new ∷ []

  part_still : (inputs : List Input) (w : ℕ) (o : PlanOp) (part : Part) → PartStands s valid w part → w ≤ length outs → part_rows inputs longer part o ≡ part_rows inputs outs part o
  part_still inputs w o (parts.Split split) stands short = of_split o
    where
      of_split : (o : PlanOp) → part_rows inputs longer (parts.Split split) o ≡ part_rows inputs outs (parts.Split split) o
      of_split (p_load path delim columns) = refl
      of_split (p_filter input test) = refl
      of_split (p_foreach input block) = refl
      of_split (p_group_all input) = refl
      of_split (p_group keyed) = refl
      of_split (p_join keyed side replicated) = refl
      of_split (p_union numbers) = refl
      of_split (p_distinct input) = refl
      of_split (p_order input keys) = refl
      of_split (p_limit input count) = refl
      of_split (p_store input path delim) = refl
      of_split (p_assert input test message) = refl
      of_split (p_rank input keys dense) = refl
  part_still inputs w o (parts.Output v j) stands short =
      let before = stands.0 in
      ap (λ found. option_map_or (λ out. rows_in out.form) (slice_get found j) []) (front_at [] outs new v (omega (arith, before, short)))

  rows_still : (inputs : List Input) (w k : ℕ) (part : Part) → PartStands s valid w part → w ≤ length outs → source_rows s.plan inputs longer k part ≡ source_rows s.plan inputs outs k part
  rows_still inputs w k part stands short = by_op (op_at s.plan k)
    where
      by_op : (found : Option PlanOp) → option_map_or (part_rows inputs longer part) found [] ≡ option_map_or (part_rows inputs outs part) found []
      by_op None = refl
      by_op (Some o) = part_still inputs w o part stands short

  value_still : (inputs : List Input) (points : Option (List Point)) (w : ℕ) (task : Task) (out : TaskOut) → TaskStands s valid w task → w ≤ length outs
      → IsValue s inputs points outs task out → IsValue s inputs points longer task out
  value_still inputs points w (t_map t) out stands short h = λ o at.
      let is = h o at in
      let same : read_rows s.plan inputs outs t ≡ read_rows s.plan inputs longer t = sym (rows_still inputs w t.way.path.source t.part stands.0 short) in
      record {
        form = subst (λ rows. IsMapForm s points longer t.node o t.way.input (through (folds s.plan) s.plan t.way.path.nodes rows) out.form) same
            (form_over s points outs longer t.node o t.way.input (task_rows s.plan inputs outs t) out.form
            (λ replicated first. let next = (stands.2 o at replicated first).0 in
            sym (front_at [] outs new (first_wave s.plan t.node) (omega (arith, next, short)))) is.form);
        lines = is.lines;
        unmet = is.unmet ∙ ap (λ rows. sort nat_cmp (unmet_on (folds s.plan) s.plan t.way.path.nodes rows)) same;
      }
  value_still inputs points w (t_reduce t) out stands short h = λ o at.
      let is = h o at in
      let next = stands.0 in
      let same : outs_at outs t.wave ≡ outs_at longer t.wave = sym (front_at [] outs new t.wave (omega (arith, next, short))) in
      record {
        form = subst (λ found. IsReduceForm s t.node o found t.part out.form) same is.form;
        lines = is.lines;
        unmet = is.unmet;
      }
  value_still inputs points w (t_rank t) out stands short h = λ o at.
      let is = h o at in
      let same : outs_at outs t.wave ≡ outs_at longer t.wave = sym (front_at [] outs new t.wave (omega (arith, stands, short))) in
      record {
        form = subst (λ found. IsRankForm o found t.part out.form) same is.form;
        lines = is.lines;
        unmet = is.unmet;
      }

  values_still : (inputs : List Input) (points : Option (List Point)) (w : ℕ) (tasks : List Task) (found : List TaskOut) → AllByRecursion (TaskStands s valid w) tasks → w ≤ length outs
      → Each (IsValue s inputs points outs) tasks found → Each (IsValue s inputs points longer) tasks found
  values_still inputs points w [] [] stands short h = tt
  values_still inputs points w [] (out ∷ found) stands short h = absurd h
  values_still inputs points w (task ∷ tasks) [] stands short h = absurd h
  values_still inputs points w (task ∷ tasks) (out ∷ found) stands short h =
      (value_still inputs points w task out stands.0 short h.0, values_still inputs points w tasks found stands.1 short h.1)

  -- ---- one more wave

  module _ (w : ℕ) (size : length outs ≡ w) (within : w < length (heads s.plan)) where
    out_still : (v at : ℕ) → v < w → HasOutput s outs v at → HasOutput s longer v at
    out_still v at before h = record {
      out = h.out;
      task = h.task;
      stands = ap (λ found. slice_get found at) (front_at [] outs new v (omega (arith, before, size))) ∙ h.stands;
      is_of = h.is_of;
      fits = h.fits;
    }

    at_last : (v : ℕ) → v ≡ w → outs_at longer v ≡ new
    at_last v is = last_at [] outs new v (omega (arith, is, size))

    one_or_other : (P : ℕ → Type 0) → ((v : ℕ) → v < w → P v) → ((v : ℕ) → v ≡ w → P v) → (v : ℕ) → v < w + 1 → P v
    one_or_other P before last v less = let below : v ≤ w = omega (arith, less) in elim (eq-or-lt_of_le below) [
      | inl same ↦ last v same
      | inr earlier ↦ before v earlier
    ]

    -- the outputs of the wave are as many as its tasks, and fit
    pub record AreNew : Type 0 where
      pub count : length new ≡ length (tasks_in s w)
      pub fit : (at : ℕ) (task : Task) (out : TaskOut) → slice_get (tasks_in s w) at ≡ Some task → slice_get new at ≡ Some out → Fits s task out
      pub sliced : (k : ℕ) (o : PlanOp) (keys : List SortKey) → slice_get (heads s.plan) w ≡ Some (head_of s.plan k kinds.Map) → op_at s.plan k ≡ Some o → sort_keys o ≡ Some keys
          → AllByRecursion (IsSliced s) new

    new_stands : AreNew → (v : ℕ) → v ≡ w → (at : ℕ) → at < length (tasks_in s v) → HasOutput s longer v at
    new_stands h v is at less =
        let count = h.count in
        let tasks_same : tasks_in s v ≡ tasks_in s w = ap (tasks_in s) is in
        let few : length (tasks_in s v) ≡ length (tasks_in s w) = ap length tasks_same in
        let task = some_at (tasks_in s w) at (omega (arith, less, few)) in
        let out = some_at new at (omega (arith, less, few, count)) in
        record {
          out = out.0;
          task = task.0;
          stands = ap (λ found. slice_get found at) (at_last v is) ∙ out.1;
          is_of = ap (λ tasks. slice_get tasks at) tasks_same ∙ task.1;
          fits = h.fit at task.0 out.0 task.1 out.1;
        }

    pub standing_on : AreStanding s outs w → AreNew → AreStanding s longer (w + 1)
    standing_on h n = record {
      counts = one_or_other (λ v. length (outs_at longer v) ≡ length (tasks_in s v))
          (λ v before. ap length (front_at [] outs new v (omega (arith, before, size))) ∙ h.counts v before)
          (λ v is. ap length (at_last v is) ∙ n.count ∙ ap (λ u. length (tasks_in s u)) (sym is));
      each = λ v at less. one_or_other (λ v. (at : ℕ) → at < length (tasks_in s v) → HasOutput s longer v at)
          (λ v before at inside. out_still v at before (h.each v at before inside)) (λ v is at inside. new_stands n v is at inside) v less at;
      sliced = λ v k o keys less head op by.
          one_or_other (λ v. slice_get (heads s.plan) v ≡ Some (head_of s.plan k kinds.Map) → AllByRecursion (IsSliced s) (outs_at longer v))
          (λ v before head. subst (AllByRecursion (IsSliced s)) (sym (front_at [] outs new v (omega (arith, before, size)))) (h.sliced v k o keys before head op by))
          (λ v is head. subst (AllByRecursion (IsSliced s)) (sym (at_last v is)) (n.sliced k o keys (ap (slice_get (heads s.plan)) (sym is) ∙ head) op by)) v less head;
    }

    module _ (inputs : List Input) (points : List (List Point)) (cut : List Point) (are : AreValues s inputs points outs w) where
      abbrev more : List (List Point)
      more = points ++ cut ∷ []

      abbrev CutAs : List SortKey → List TaskOut → List Point → Type 0
      CutAs keys found = AreCuts s.sizing.reducers (dirs_of keys) (entries_held found)

      pub values_on : Each (IsValue s inputs (Some cut) outs) (tasks_in s w) new
          → ((k : ℕ) (o : PlanOp) (keys : List SortKey) → op_at s.plan k ≡ Some o → is_live s.plan k ≡ true → sort_keys o ≡ Some keys → first_wave s.plan k ≡ w → AreCuts s.sizing.reducers (dirs_of keys) (entries_held new) cut)
          → AreValues s inputs more longer (w + 1)
      values_on h cuts =
          let many = are.size in
          record {
            size = length-append points (cut ∷ []) ∙ ap (λ n. n + 1) are.size;
            values = one_or_other (λ v. Each (IsValue s inputs (Some (at_place [] more v)) longer) (tasks_in s v) (outs_at longer v))
                (λ v before. subst (λ found. Each (IsValue s inputs (Some (at_place [] more v)) longer) (tasks_in s v) found) (sym (front_at [] outs new v (omega (arith, before, size))))
                (subst (λ p. Each (IsValue s inputs (Some p) longer) (tasks_in s v) (outs_at outs v)) (sym (front_at [] points cut v (omega (arith, before, many))))
                (values_still inputs (Some (at_place [] points v)) v (tasks_in s v) (outs_at outs v) (tasks_stand s valid v (omega (arith, before, within))) (omega (arith, before, size)) (are.values v before))))
                (λ v is. subst (λ found. Each (IsValue s inputs (Some (at_place [] more v)) longer) (tasks_in s v) found) (sym (at_last v is))
                (subst (λ p. Each (IsValue s inputs (Some p) longer) (tasks_in s v) new) (sym (last_at [] points cut v (omega (arith, is, many))))
                (subst (λ u. Each (IsValue s inputs (Some cut) longer) (tasks_in s u) new) (sym is)
                (values_still inputs (Some cut) w (tasks_in s w) new (tasks_stand s valid w within) (omega (arith, size)) h))));
            cuts = λ k o keys at alive by less.
                one_or_other (λ v. first_wave s.plan k ≡ v → CutAs keys (outs_at longer v) (at_place [] more v))
                (λ v before is. subst (λ found. CutAs keys found (at_place [] more v)) (sym (front_at [] outs new v (omega (arith, before, size))))
                (subst (CutAs keys (outs_at outs v)) (sym (front_at [] points cut v (omega (arith, before, many))))
                (subst (λ v. CutAs keys (outs_at outs v) (at_place [] points v)) is (are.cuts k o keys at alive by (omega (arith, before, is))))))
                (λ v last is. subst (λ found. CutAs keys found (at_place [] more v)) (sym (at_last v last))
                (subst (CutAs keys new) (sym (last_at [] points cut v (omega (arith, last, many)))) (cuts k o keys at alive by (is ∙ last))))
                (first_wave s.plan k) less refl;
          }
