-- What is left of outputs serves the next wave as all of them do.
use Rattle.std.specs.Prelude.{◌≡◌, ◌<◌, ◌+◌, ◌++◌, ℕ, List, [], ◌∷◌, length, map, Option, Some, None, slice_get, zero, suc, refl}
use Rattle.std.proofs.Common.{ap, sym, ◌∙◌, arith, inl, inr, subst}
use Rattle.std.specs.List.{AllByRecursion}
use Rattle.std.specs.Option.{option_map_or}
use Rattle.std.specs.Ordering.{nat_cmp}
use Rattle.std.proofs.lemmas.List.{length-map, map-append}
use Rattle.pig_value.specs.declared.inputs.Input.{Input}
use Rattle.pig_value.specs.Sorts.{sort}
use Rattle.pig_plan.specs.Asserts.{unmet_on}
use Rattle.pig_plan.specs.Nodes.{op_at}
use Rattle.pig_plan.specs.Plans.{PlanOp, p_load, p_filter, p_foreach, p_group_all, p_group, p_join, p_union, p_distinct, p_order, p_limit, p_store, p_assert, p_rank}
use Rattle.pig_plan.specs.Steps.{through}
use Rattle.pig_physical.specs.Combining.{folds}
use Rattle.pig_physical.specs.Fitting.{HasAll, HasNamed, HasOutput, HasPart, HasWave}
use Rattle.pig_physical.specs.Outs.{Outs, TaskOut, outs_at, rows_in, runs_in}
use Rattle.pig_physical.specs.Stages.{Stages, Task, first_wave, heads, t_map, t_rank, t_reduce, tasks_in}
use Rattle.pig_physical.specs.Values.{IsMapForm, IsRankForm, IsReduceForm, IsValue, part_rows, task_rows}
use Rattle.pig_physical.specs.declared.parts.Part.{Part}
use Rattle.pig_physical.specs.declared.parts.Part.TheVariants as parts
use Rattle.pig_physical.specs.declared.parts.ReduceTask.{ReduceTask}
use Rattle.pig_work.specs.Working.{Tellings}
use Rattle.pig_driver.specs.Left.{AreLastLooks, AreLeft, HaveGone, copies_of, named_wave, note_in, part_wave}
use Rattle.pig_driver.proofs.Copies.{form_over, probes_here}
use Rattle.pig_driver.proofs.Rights.{AreRight}

-- ---- outputs at one place

-- two lists of one length, and one more behind each
more_at : (xs ys : Outs) (x : List TaskOut) (v : ℕ) → length xs ≡ length ys → outs_at xs v ≡ outs_at ys v → outs_at (xs ++ x ∷ []) v ≡ outs_at (ys ++ x ∷ []) v
more_at [] [] x v size h = refl
more_at [] (b ∷ ys) x v size h = absurd (omega (arith, size))
more_at (a ∷ xs) [] x v size h = absurd (omega (arith, size))
more_at (a ∷ xs) (b ∷ ys) x zero size h = h
more_at (a ∷ xs) (b ∷ ys) x (suc v) size h = more_at xs ys x v (omega (arith, size)) h

pub left_size : (s : Stages) (whole left : Outs) (w : ℕ) → AreLeft s whole left w → length left ≡ length whole
left_size s whole left w are = sym (length-map left (map note_in)) ∙ ap length are.notes ∙ length-map whole (map note_in)

-- what a wave that has just run handed on is left
pub left_pushed : (s : Stages) (whole left : Outs) (out : List TaskOut) (w : ℕ) → AreLeft s whole left w → AreLeft s (whole ++ out ∷ []) (left ++ out ∷ []) w
left_pushed s whole left out w are =
    let size = left_size s whole left w are in
    record {
      notes = map-append (map note_in) left (out ∷ []) ∙ ap (λ ns. ns ++ map note_in out ∷ []) are.notes ∙ sym (map-append (map note_in) whole (out ∷ []));
      named = λ v n. more_at left whole out v size (are.named v n);
      chosen = λ v n. more_at left whole out v size (are.chosen v n);
      last = λ v n. more_at left whole out v size (are.last v n);
    }

pub left_none : (s : Stages) → AreLeft s [] [] 0
left_none s = record { notes = refl; named = λ v n. refl; chosen = λ v n. refl; last = λ v n. refl }

-- what a wave is the last to look at may go
pub left_on : (s : Stages) (whole left news : Outs) (lasts : List ℕ) (w : ℕ) → w < length (heads s.plan) → AreLastLooks s lasts → AreLeft s whole left w → HaveGone lasts w left news
    → AreLeft s whole news (w + 1)
left_on s whole left news lasts w within looks are gone = record {
  notes = gone.notes ∙ are.notes;
  named = λ v n. gone.stay v (λ e. let least = looks.named n.wave v n.named w e in let later = n.later in absurd (omega (arith, least, later)))
      ∙ are.named v (record { wave = n.wave; later = (let later = n.later in omega (arith, later)); named = n.named });
  chosen = λ v n. gone.stay v (λ e. let least = looks.chosen v n w e in absurd (omega (arith, least, within))) ∙ are.chosen v n;
  last = λ v n. gone.stay v (λ e. let least = looks.last v n w e in absurd (omega (arith, least, within))) ∙ are.last v n;
}

-- ---- what a task names

module _ (s : Stages) (whole left : Outs) where
  abbrev Agrees : Option ℕ → Type 0
  Agrees named = (v : ℕ) → named ≡ Some v → outs_at left v ≡ outs_at whole v

  output_over : (v at : ℕ) → outs_at left v ≡ outs_at whole v → HasOutput s whole v at → HasOutput s left v at
  output_over v at same h = record { out = h.out; task = h.task; stands = ap (λ os. slice_get os at) same ∙ h.stands; is_of = h.is_of; fits = h.fits }

  part_over : (part : Part) → Agrees (part_wave part) → HasPart s whole part → HasPart s left part
  part_over (parts.Split split) same h = tt
  part_over (parts.Output v at) same h = output_over v at (same v refl) h

  wave_over : (t : ReduceTask) → outs_at left t.wave ≡ outs_at whole t.wave → HasWave s whole t → HasWave s left t
  wave_over t same h = record {
    count = ap length same ∙ h.count;
    each = λ at less. output_over t.wave at same (h.each at less);
    sliced = λ o keys at by. subst (AllByRecursion (λ out. length (runs_in out.form) ≡ s.sizing.reducers)) (sym same) (h.sliced o keys at by);
  }

  all_over : (v : ℕ) → outs_at left v ≡ outs_at whole v → HasAll s whole v → HasAll s left v
  all_over v same h = record { count = ap length same ∙ h.count; each = λ at less. output_over v at same (h.each at less) }

  -- the outputs that a task looks at are the same
  pub record AgreesOn (task : Task) : Type 0 where
    pub own : Agrees (named_wave task)
    pub copies : Agrees (copies_of s task)

  pub named_over : (task : Task) → AgreesOn task → HasNamed s whole task → HasNamed s left task
  named_over (t_map t) same h = record {
    part = part_over t.part same.own h.part;
    copies = λ o at replicated first.
        all_over (first_wave s.plan t.node) (same.copies (first_wave s.plan t.node) (probes_here s t o at replicated first)) (h.copies o at replicated first);
  }
  named_over (t_reduce t) same h = wave_over t (same.own t.wave refl) h
  named_over (t_rank t) same h = all_over t.wave (same.own t.wave refl) h

  -- ---- the values of tasks

  rows_over : (inputs : List Input) (part : Part) (o : PlanOp) → Agrees (part_wave part) → part_rows inputs left part o ≡ part_rows inputs whole part o
  rows_over inputs (parts.Output v at) o same = ap (λ os. option_map_or (λ out. rows_in out.form) (slice_get os at) []) (same v refl)
  rows_over inputs (parts.Split split) (p_load path delim columns) same = refl
  rows_over inputs (parts.Split split) (p_filter input test) same = refl
  rows_over inputs (parts.Split split) (p_foreach input block) same = refl
  rows_over inputs (parts.Split split) (p_group_all input) same = refl
  rows_over inputs (parts.Split split) (p_group keyed) same = refl
  rows_over inputs (parts.Split split) (p_join keyed side replicated) same = refl
  rows_over inputs (parts.Split split) (p_union numbers) same = refl
  rows_over inputs (parts.Split split) (p_distinct input) same = refl
  rows_over inputs (parts.Split split) (p_order input keys) same = refl
  rows_over inputs (parts.Split split) (p_limit input count) same = refl
  rows_over inputs (parts.Split split) (p_store input path delim) same = refl
  rows_over inputs (parts.Split split) (p_assert input test message) same = refl
  rows_over inputs (parts.Split split) (p_rank input keys dense) same = refl

  source_over : (inputs : List Input) (part : Part) (found : Option PlanOp) → Agrees (part_wave part)
      → option_map_or (part_rows inputs left part) found [] ≡ option_map_or (part_rows inputs whole part) found []
  source_over inputs part None same = refl
  source_over inputs part (Some o) same = rows_over inputs part o same

  pub value_over : (inputs : List Input) (task : Task) (out : TaskOut) → AgreesOn task → IsValue s inputs None left task out → IsValue s inputs None whole task out
  value_over inputs (t_map t) out same h =
      let read = source_over inputs t.part (op_at s.plan t.way.path.source) same.own in
      λ o at. let value = h o at in
      record {
        form = subst (λ rows. IsMapForm s None whole t.node o t.way.input (through (folds s.plan) s.plan t.way.path.nodes rows) out.form) read
            (form_over s None left whole t.node o t.way.input (task_rows s.plan inputs left t) out.form
            (λ replicated first. same.copies (first_wave s.plan t.node) (probes_here s t o at replicated first)) value.form);
        lines = value.lines;
        unmet = value.unmet ∙ ap (λ rows. sort nat_cmp (unmet_on (folds s.plan) s.plan t.way.path.nodes rows)) read;
      }
  value_over inputs (t_reduce t) out same h =
      λ o at. let value = h o at in
      record {
        form = subst (λ outs. IsReduceForm s t.node o outs t.part out.form) (same.own t.wave refl) value.form;
        lines = value.lines;
        unmet = value.unmet;
      }
  value_over inputs (t_rank t) out same h =
      λ o at. let value = h o at in
      record {
        form = subst (λ outs. IsRankForm o outs t.part out.form) (same.own t.wave refl) value.form;
        lines = value.lines;
        unmet = value.unmet;
      }

-- ---- a wave over what is left

agrees : (s : Stages) (whole left : Outs) (w at : ℕ) (task : Task) → AreLeft s whole left w → slice_get (tasks_in s w) at ≡ Some task → AgreesOn s whole left task
agrees s whole left w at task are stands = record {
  own = λ v names. are.named v (record { wave = w; later = omega arith; named = record { at = at; task = task; stands = stands; names = inl names } });
  copies = λ v names. are.named v (record { wave = w; later = omega arith; named = record { at = at; task = task; stands = stands; names = inr names } });
}

pub named_left : (s : Stages) (whole left : Outs) (w at : ℕ) (task : Task) → AreLeft s whole left w → slice_get (tasks_in s w) at ≡ Some task → HasNamed s whole task → HasNamed s left task
named_left s whole left w at task are stands = named_over s whole left task (agrees s whole left w at task are stands)

pub right_whole : (s : Stages) (tellings : Tellings) (whole left : Outs) (w : ℕ) (found : List TaskOut) → AreLeft s whole left w → AreRight s tellings left w found → AreRight s tellings whole w found
right_whole s tellings whole left w found are rights = record {
  count = rights.count;
  right = λ at task o by is. let right = rights.right at task o by is in
      record {
        fits = right.fits;
        value = λ inputs tell. value_over s whole left inputs task o (agrees s whole left w at task are by) (right.value inputs tell);
      };
}
