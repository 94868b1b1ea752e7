-- What stands for the tasks of the first two waves, where only the first one copies.
use Rattle.std.specs.Prelude.{◌≡◌, ◌+◌, ℕ, true, false, [], ◌∷◌, length, map, Some, slice_get, refl}
use Rattle.std.proofs.Common.{ap, sym, ◌∙◌, arith, subst, true≢false}
use Rattle.std.specs.Option.{option_map, option_map_or}
use Rattle.std.proofs.lemmas.Option.{slice_get_within}
use Rattle.pig_value.proofs.list_laws.Listing.{some_same}
use Rattle.pig_plan.specs.Nodes.{is_boundary, is_live, is_store, op_at}
use Rattle.pig_plan.specs.Plans.{PlanOp, p_load, p_filter, p_foreach, p_group_all, p_group, p_join, p_union, p_distinct, p_order, p_limit, p_store, p_assert, p_rank}
use Rattle.pig_plan.specs.Results.{at_place}
use Rattle.pig_physical.specs.Fitting.{Fits, HasAll, HasCopies, HasOutput}
use Rattle.pig_physical.specs.Outs.{Outs, TaskOut}
use Rattle.pig_physical.specs.Seen.{IsOwn, map_task_of, no_way, task_of}
use Rattle.pig_physical.specs.Stages.{MapTask, Stages, first_wave, head_of, heads, is_replicated, t_map, tasks_in, waves_of, ways_in}
use Rattle.pig_physical.specs.declared.parts.MapTask as mapping
use Rattle.pig_physical.specs.declared.parts.Task.TheVariants as tasks
use Rattle.pig_physical.specs.declared.waves.WaveKind.{WaveKind}
use Rattle.pig_physical.specs.declared.waves.WaveKind.TheVariants as kinds
use Rattle.pig_waves.proofs.Heads.{head_at, probing}
use Rattle.pig_fitting.proofs.Standing.{Stands, at_node, at_store, task_stands}
use Rattle.pig_map_tests.specs.First.{CopiesFirst, FirstCopies, FitsFirst}

-- ---- a wave

pub other_kind : (s : Stages) (w : ℕ) (kind : WaveKind) → option_map (λ head. head.kind) (slice_get (heads s.plan) w) ≡ Some kind
    → (kind ≡ kinds.Copy → ⊥) → CopiesFirst s w
other_kind s w kind is other head at copies =
    absurd (other (some_same kind head.kind (sym is ∙ ap (option_map (λ h. h.kind)) at) ∙ copies))

-- the only output of a first wave of one task
pub only : (s : Stages) (out : TaskOut) → length (tasks_in s 0) ≡ 1 → FitsFirst s out → HasAll s ((out ∷ []) ∷ []) 0
only s out one fits = record {
  count = sym one;
  each = λ at less. let first : 0 ≡ at = omega (arith, less, one) in
      subst (HasOutput s ((out ∷ []) ∷ []) 0) first (record { out = out; task = fits.task; stands = refl; is_of = fits.is_of; fits = fits.fits });
}

pub fits_first : (s : Stages) (t : mapping.MapTask) → slice_get (tasks_in s 0) 0 ≡ Some (task_of (ways_in s.plan 0) (tasks.Map t))
    → IsOwn 0 (length (ways_in s.plan 0)) (tasks.Map t) → (out : TaskOut) → Fits s (t_map (map_task_of s t)) out → FitsFirst s out
fits_first s t stands own out fits = record {
  task = task_of (ways_in s.plan 0) (tasks.Map t);
  is_of = stands;
  fits = subst (λ u. Fits s u out) (ap (λ v. t_map (record { node = t.node; way = at_place no_way (ways_in s.plan v) t.way; part = t.part })) own.0) fits;
}

-- ---- a task

pub by_key : (s : Stages) (t : MapTask) (p : PlanOp) → op_at s.plan t.node ≡ Some p → is_replicated p ≡ false → (outs : Outs) → HasCopies s outs t
by_key s t p at none outs o by replicated first =
    absurd (true≢false (sym replicated ∙ ap is_replicated (some_same o p (sym by ∙ at)) ∙ none))

pub of_further : (s : Stages) (t : MapTask) → (t.way.input ≡ 0 → ⊥) → (outs : Outs) → HasCopies s outs t
of_further s t other outs o at replicated first = absurd (other first)

stores_join_none : (o : PlanOp) → is_store o ≡ true → is_replicated o ≡ false
stores_join_none (p_store input path delim) h = refl
stores_join_none (p_load path delim columns) h = absurd (true≢false (sym h))
stores_join_none (p_filter input test) h = absurd (true≢false (sym h))
stores_join_none (p_foreach input block) h = absurd (true≢false (sym h))
stores_join_none (p_group_all input) h = absurd (true≢false (sym h))
stores_join_none (p_group inputs) h = absurd (true≢false (sym h))
stores_join_none (p_join inputs side replicated) h = absurd (true≢false (sym h))
stores_join_none (p_union inputs) h = absurd (true≢false (sym h))
stores_join_none (p_distinct input) h = absurd (true≢false (sym h))
stores_join_none (p_order input keys) h = absurd (true≢false (sym h))
stores_join_none (p_limit input count) h = absurd (true≢false (sym h))
stores_join_none (p_assert input test message) h = absurd (true≢false (sym h))
stores_join_none (p_rank input keys dense) h = absurd (true≢false (sym h))

module _ (s : Stages) (k : ℕ) (o : PlanOp) (at : op_at s.plan k ≡ Some o) (alive : is_live s.plan k ≡ true)
    (replicated : is_replicated o ≡ true) where
  first_copies : slice_get (heads s.plan) (first_wave s.plan k + 0) ≡ Some (head_of s.plan k kinds.Copy)
  first_copies =
      head_at s.plan k 0 (head_of s.plan k kinds.Copy) alive (ap (λ found. option_map_or is_boundary found false) at ∙ (probing o replicated).bounds)
      (ap (λ found. slice_get (option_map_or (λ p. map (head_of s.plan k) (waves_of p)) found []) 0) at
      ∙ ap (λ own. slice_get (map (head_of s.plan k) own) 0) (probing o replicated).waves)

  its_wave : FirstCopies s → 0 ≡ first_wave s.plan k
  its_wave all =
      let first : first_wave s.plan k + 0 ≡ 0 =
      all (first_wave s.plan k + 0) (slice_get_within (heads s.plan) (first_wave s.plan k + 0) (head_of s.plan k kinds.Copy) first_copies)
      (head_of s.plan k kinds.Copy) first_copies refl in
      omega (arith, first)

pub of_node : (s : Stages) (t : MapTask) (w place : ℕ) → slice_get (tasks_in s w) place ≡ Some (t_map t) → FirstCopies s
    → (outs : Outs) → HasAll s outs 0 → HasCopies s outs t
of_node s t w place stands first outs all o at replicated _ = by_kind (task_stands s t w place stands)
  where
    by_kind : Stands s t → HasAll s outs (first_wave s.plan t.node)
    by_kind (at_node p is live here on part) = subst (HasAll s outs) (its_wave s t.node o at live replicated first) all
    by_kind (at_store p is live store on part) =
        absurd (true≢false (sym replicated ∙ stores_join_none o (ap is_store (some_same o p (sym at ∙ is)) ∙ store)))
