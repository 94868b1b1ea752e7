-- Where all waves stand that copy for a node, the copies stand that its tasks name.
use Rattle.std.specs.Prelude.{◌≡◌, ◌+◌, ℕ, true, false, [], Some, map, slice_get, refl}
use Rattle.std.proofs.Common.{ap, sym, ◌∙◌, arith, subst, true≢false}
use Rattle.std.specs.Option.{option_map, option_map_or}
use Rattle.std.proofs.lemmas.Option.{slice_get_within}
use Rattle.pig_value.proofs.list_laws.Listing.{some_same}
use Rattle.pig_plan.specs.Nodes.{is_boundary, is_live, is_store, op_at}
use Rattle.pig_plan.specs.Plans.{PlanOp, p_load, p_filter, p_foreach, p_group_all, p_group, p_join, p_union, p_distinct, p_order, p_limit, p_store, p_assert, p_rank}
use Rattle.pig_physical.specs.Fitting.{HasAll, HasCopies}
use Rattle.pig_physical.specs.Outs.{Outs}
use Rattle.pig_physical.specs.Stages.{MapTask, Stages, first_wave, head_of, heads, is_replicated, t_map, tasks_in, waves_of}
use Rattle.pig_physical.specs.declared.waves.WaveKind.{WaveKind}
use Rattle.pig_physical.specs.declared.waves.WaveKind.TheVariants as kinds
use Rattle.pig_waves.proofs.Heads.{head_at, probing}
use Rattle.pig_fitting.proofs.Standing.{Stands, at_node, at_store, task_stands}
use Rattle.pig_tasks_tests.specs.Fits.{AllCopied, CopiedAt}

-- ---- a wave

pub other_kind : (s : Stages) (outs : Outs) (k w : ℕ) (kind : WaveKind) → option_map (λ head. head.kind) (slice_get (heads s.plan) w) ≡ Some kind
    → (kind ≡ kinds.Copy → ⊥) → CopiedAt s outs k w
other_kind s outs k w kind is other head at copies own =
    absurd (other (some_same kind head.kind (sym is ∙ ap (option_map (λ h. h.kind)) at) ∙ copies))

pub other_node : (s : Stages) (outs : Outs) (k w node : ℕ) → option_map (λ head. head.node) (slice_get (heads s.plan) w) ≡ Some node
    → (node ≡ k → ⊥) → CopiedAt s outs k w
other_node s outs k w node is other head at copies own =
    absurd (other (some_same node head.node (sym is ∙ ap (option_map (λ h. h.node)) at) ∙ own))

-- ---- a task

pub of_further : (s : Stages) (outs : Outs) (t : MapTask) → (t.way.input ≡ 0 → ⊥) → HasCopies s outs t
of_further s outs t other o at replicated first = absurd (other first)

stores_join_none : (o : PlanOp) → is_store o ≡ true → is_replicated o ≡ false
stores_join_none (p_store input path delim) h = refl
stores_join_none (p_load path delim columns) h = absurd (true≢false (sym h))
stores_join_none (p_filter input test) h = absurd (true≢false (sym h))
stores_join_none (p_foreach input block) h = absurd (true≢false (sym h))
stores_join_none (p_group_all input) h = absurd (true≢false (sym h))
stores_join_none (p_group inputs) h = absurd (true≢false (sym h))
stores_join_none (p_join inputs side replicated) h = absurd (true≢false (sym h))
stores_join_none (p_union inputs) h = absurd (true≢false (sym h))
stores_join_none (p_distinct input) h = absurd (true≢false (sym h))
stores_join_none (p_order input keys) h = absurd (true≢false (sym h))
stores_join_none (p_limit input count) h = absurd (true≢false (sym h))
stores_join_none (p_assert input test message) h = absurd (true≢false (sym h))
stores_join_none (p_rank input keys dense) h = absurd (true≢false (sym h))

module _ (s : Stages) (outs : Outs) (k : ℕ) (o : PlanOp) (at : op_at s.plan k ≡ Some o) (alive : is_live s.plan k ≡ true)
    (replicated : is_replicated o ≡ true) where
  first_copies : slice_get (heads s.plan) (first_wave s.plan k + 0) ≡ Some (head_of s.plan k kinds.Copy)
  first_copies =
      head_at s.plan k 0 (head_of s.plan k kinds.Copy) alive (ap (λ found. option_map_or is_boundary found false) at ∙ (probing o replicated).bounds)
      (ap (λ found. slice_get (option_map_or (λ p. map (head_of s.plan k) (waves_of p)) found []) 0) at
      ∙ ap (λ own. slice_get (map (head_of s.plan k) own) 0) (probing o replicated).waves)

  its_copies : AllCopied s outs k → HasAll s outs (first_wave s.plan k)
  its_copies all =
      let first : first_wave s.plan k + 0 ≡ first_wave s.plan k = omega arith in
      subst (HasAll s outs) first
      (all (first_wave s.plan k + 0) (slice_get_within (heads s.plan) (first_wave s.plan k + 0) (head_of s.plan k kinds.Copy) first_copies)
      (head_of s.plan k kinds.Copy) first_copies refl refl)

pub of_node : (s : Stages) (outs : Outs) (t : MapTask) (w place : ℕ) → slice_get (tasks_in s w) place ≡ Some (t_map t) → AllCopied s outs t.node → HasCopies s outs t
of_node s outs t w place stands all o at replicated first = by_kind (task_stands s t w place stands)
  where
    by_kind : Stands s t → HasAll s outs (first_wave s.plan t.node)
    by_kind (at_node p is live here on part) = its_copies s outs t.node o at live replicated all
    by_kind (at_store p is live store on part) =
        absurd (true≢false (sym replicated ∙ stores_join_none o (ap is_store (some_same o p (sym at ∙ is)) ∙ store)))
