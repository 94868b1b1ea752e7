-- What all map tasks of a run handed on, wave by wave, is what is due of their rows.
use Rattle.std.specs.Prelude.{◌≡◌, ◌<◌, ◌≤◌, ◌+◌, ℕ, zero, suc, List, [], ◌∷◌, ◌++◌, length, Some, refl}
use Rattle.std.proofs.Common.{ap, sym, ◌∙◌, arith, subst}
use Rattle.std.specs.List.{AllByRecursion, flat_map, range_with_len, sum_by}
use Rattle.std.specs.Option.{option_map_or, unwrap_or}
use Rattle.std.proofs.lemmas.List.Sums.{sum_by-append, sum_by-cons}
use Rattle.std.proofs.lemmas.Option.{slice_get_past}
use Rattle.pig_value.specs.declared.inputs.Input.{Input}
use Rattle.pig_value.specs.Elementwise.{Each}
use Rattle.pig_value.proofs.list_laws.Elementwise.{range_above}
use Rattle.pig_value.proofs.list_laws.Listing.{each_weaker, flat_map_none}
use Rattle.pig_plan.specs.Results.{at_place}
use Rattle.pig_runs.specs.Cutting.{Point}
use Rattle.pig_physical.specs.Outs.{Outs, TaskOut, outs_at}
use Rattle.pig_physical.specs.Running.{IsRun}
use Rattle.pig_physical.specs.Stages.{Stages, Task, heads, t_map, t_rank, t_reduce, tasks_in, tasks_of}
use Rattle.pig_physical.specs.Values.{IsValue, task_rows}
use Rattle.pig_driver.specs.Handing.{entries_handed, handed_by, handed_from, handed_in, handed_of}
use Rattle.pig_counts.specs.Due.{due_by, due_of, entries_due}
use Rattle.pig_counts.proofs.Standing.{TaskStands, tasks_stand}
use Rattle.pig_counts.proofs.TaskCounts.{form_counts}

module _ {X : Type 0} (f : ℕ → List X) where
  none_more : (a n m : ℕ) → ((w : ℕ) → a + n ≤ w → f w ≡ []) → flat_map f (range_with_len a (n + m)) ≡ flat_map f (range_with_len a n)
  none_more a zero m none =
      let all : 0 + m ≡ m = omega arith in
      ap (λ n. flat_map f (range_with_len a n)) all
      ∙ flat_map_none f (range_with_len a m) (each_weaker (λ w. a ≤ w) (λ w. f w ≡ []) (λ w h. none w (omega (arith, h))) (range_with_len a m) (range_above a m))
  none_more a (suc n) m none =
      let one_more : suc n + m ≡ suc (n + m) = omega arith in
      ap (λ n. flat_map f (range_with_len a n)) one_more
      ∙ ap (λ rest. f a ++ rest) (none_more (a + 1) n m (λ w h. none w (omega (arith, h))))

  -- lists by numbers up to two ends, from each of which on they are empty
  same_ends : (n m : ℕ) → ((w : ℕ) → n ≤ w → f w ≡ []) → ((w : ℕ) → m ≤ w → f w ≡ []) → flat_map f (range_with_len 0 n) ≡ flat_map f (range_with_len 0 m)
  same_ends n m first second =
      let both : n + m ≡ m + n = omega arith in
      sym (none_more 0 n m (λ w h. first w (omega (arith, h))))
      ∙ ap (λ n. flat_map f (range_with_len 0 n)) both
      ∙ none_more 0 m n (λ w h. second w (omega (arith, h)))

module _ (s : Stages) (inputs : List Input) (points : ℕ → List Point) (outs : Outs) (some : 0 < s.sizing.reducers) (run : IsRun s inputs points outs) where
  abbrev due : Task → ℕ
  due = due_by s inputs outs

  abbrev Stands : ℕ → Task → Type 0
  Stands = TaskStands s inputs points outs run

  abbrev Valued : ℕ → Task → TaskOut → Type 0
  Valued w = IsValue s inputs (Some (points w)) outs

  of_task : (w : ℕ) (task : Task) (out : TaskOut) → Stands w task → Valued w task out → handed_by s.plan task out ≡ due task
  of_task w (t_map t) out stands value =
      ap (λ found. option_map_or (λ o. handed_of o out.form) found 0) stands.at
      ∙ form_counts s some (points w) outs t.node stands.o stands.rise t.way.input (task_rows s.plan inputs outs t) out.form (value stands.o stands.at).form
      ∙ sym (ap (λ found. option_map_or (λ o. due_of s t.node o t.way.input (task_rows s.plan inputs outs t)) found 0) stands.at)
  of_task w (t_reduce t) out stands value = refl
  of_task w (t_rank t) out stands value = refl

  of_tasks : (w : ℕ) (tasks : List Task) (wave : List TaskOut) → AllByRecursion (Stands w) tasks → Each (Valued w) tasks wave → handed_in s.plan tasks wave ≡ sum_by due tasks
  of_tasks w [] wave stand values = refl
  of_tasks w (task ∷ tasks) [] stand values = absurd values
  of_tasks w (task ∷ tasks) (out ∷ wave) stand values =
      let one = of_task w task out stand.0 values.0 in
      let more = of_tasks w tasks wave stand.1 values.1 in
      let both = sum_by-cons due task tasks in
      omega (arith, one, more, both)

  -- from a wave on, whose outputs and those behind it are `left`
  from_wave : (w : ℕ) (left : Outs) → ((i : ℕ) → outs_at outs (w + i) ≡ at_place [] left i)
      → handed_from s w left ≡ sum_by due (flat_map (tasks_in s) (range_with_len w (length left)))
  from_wave w [] at = refl
  from_wave w (wave ∷ left) at =
      let zeroth : w ≡ w + 0 = omega arith in
      let here : outs_at outs w ≡ wave = ap (outs_at outs) zeroth ∙ at 0 in
      let one : handed_in s.plan (tasks_in s w) wave ≡ sum_by due (tasks_in s w) =
      of_tasks w (tasks_in s w) wave (tasks_stand s inputs points outs run w) (subst (Each (Valued w) (tasks_in s w)) here (run.values w)) in
      let more = from_wave (w + 1) left (λ i. (let e : w + 1 + i ≡ w + suc i = omega arith in ap (outs_at outs) e) ∙ at (suc i)) in
      let both = sum_by-append due (tasks_in s w) (flat_map (tasks_in s) (range_with_len (w + 1) (length left))) in
      omega (arith, one, more, both)

  -- ---- behind the last wave there is no task, and none behind the last outputs

  past_heads : (w : ℕ) → length (heads s.plan) ≤ w → tasks_in s w ≡ []
  past_heads w past = ap (λ found. option_map_or (tasks_of s w) found []) (slice_get_past (heads s.plan) w past)

  past_outs : (w : ℕ) → length outs ≤ w → tasks_in s w ≡ []
  past_outs w past = no_values (tasks_in s w) (subst (Each (Valued w) (tasks_in s w)) (ap (λ found. unwrap_or found []) (slice_get_past outs w past)) (run.values w))
    where
      no_values : (tasks : List Task) → Each (Valued w) tasks [] → tasks ≡ []
      no_values [] h = refl
      no_values (task ∷ tasks) h = absurd h

  pub all_due : entries_handed s outs ≡ entries_due s inputs outs
  all_due =
      from_wave 0 outs (λ i. let e : 0 + i ≡ i = omega arith in ap (outs_at outs) e)
      ∙ ap (sum_by due) (same_ends (tasks_in s) (length outs) (length (heads s.plan)) past_outs past_heads)
