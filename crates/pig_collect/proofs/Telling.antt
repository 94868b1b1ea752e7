-- The least statement that tasks tell of is that of the first live ASSERT that the meaning does not meet.
use Rattle.std.specs.Prelude.{◌≡◌, ◌+◌, ◌==◌, ℕ, zero, suc, Bool, true, false, not, List, [], ◌∷◌, Option, Some, None, slice_get, refl}
use Rattle.std.proofs.Common.{ap, sym, ◌∙◌, arith, cond, subst, true≢false}
use Rattle.std.specs.List.{AllByRecursion, cons_option, filter, filter_map, flat_map, list_all}
use Rattle.std.specs.Option.{option_map_or}
use Rattle.std.specs.Ordering.{nat_cmp}
use Rattle.std.proofs.lemmas.Bool.{eq-eqb, eqb-true}
use Rattle.pig_value.specs.declared.inputs.Input.{Input}
use Rattle.pig_value.specs.declared.outcomes.Kept.{Kept}
use Rattle.pig_value.specs.Trees.{Tree}
use Rattle.pig_value.proofs.list_laws.Bags.{each-sort}
use Rattle.pig_value.proofs.list_laws.Elementwise.{each_flat}
use Rattle.pig_value.proofs.list_laws.Listing.{each-append, each-filter, each_at, each_filtered}
use Rattle.pig_typed.specs.Evaluation.{passes}
use Rattle.pig_typed.specs.Typed.{Typed}
use Rattle.pig_plan.specs.Asserts.{met, not_met, not_met_at, unmet, unmet_on}
use Rattle.pig_plan.specs.Meaning.{meaning}
use Rattle.pig_plan.specs.Nodes.{is_live, live}
use Rattle.pig_plan.specs.Plans.{Plan, PlanNode, PlanOp, p_load, p_filter, p_foreach, p_group_all, p_group, p_join, p_union, p_distinct, p_order, p_limit, p_store, p_assert, p_rank}
use Rattle.pig_plan.specs.Results.{at_place}
use Rattle.pig_plan.specs.Steps.{Folding, node_step}
use Rattle.pig_plan.specs.Valid.{IsPlan}
use Rattle.pig_runs.specs.Cutting.{Point}
use Rattle.pig_physical.specs.Combining.{folds}
use Rattle.pig_physical.specs.Outs.{Outs, TaskOut, outs_at}
use Rattle.pig_physical.specs.Running.{IsRun, all_unmet}
use Rattle.pig_physical.specs.Stages.{Stages, Task, t_map, t_rank, t_reduce, tasks_in}
use Rattle.pig_physical.specs.Values.{IsValue, read_rows, task_unmet}
use Rattle.pig_cutter.specs.Laws.{GiveMeaning, StagesGiveMeaning, asserts_at}
use Rattle.pig_reach.specs.Reach.{live_nodes}
use Rattle.pig_waves.proofs.Among.{Among, among_first, among_later, among_map, any_holds, mapped_from, some_holds}
use Rattle.pig_waves.proofs.Heads.{live_at}
use Rattle.pig_waves.proofs.Places.{all_flat_where, each_known, filtered_at}
use Rattle.pig_collect.specs.Collecting.{least}
use Rattle.pig_collect.specs.Laws.{RunsTellTheFirstUnmet}
use Rattle.pig_collect.proofs.Alive.{TaskLives, tasks_live}
use Rattle.pig_collect.proofs.Lesser.{least_is, least_same}

-- ---- what tasks tell

module _ (plan : Plan) where
  -- the statement of a live ASSERT
  pub record IsTold (n : ℕ) : Type 0 where
    pub k : ℕ
    pub input : ℕ
    pub test : Typed
    pub message : Option (List ℕ)
    pub at : slice_get plan k ≡ Some (asserts_at input test message n)
    pub alive : is_live plan k ≡ true

  of_node : (k : ℕ) (rows : List (List Tree)) → is_live plan k ≡ true → AllByRecursion IsTold (not_met_at plan k rows)
  of_node k rows alive = by_node (slice_get plan k) refl
    where
      by_test : (statement input : ℕ) (test : Typed) (message : Option (List ℕ)) → slice_get plan k ≡ Some (asserts_at input test message statement)
          → (b : Bool) → AllByRecursion IsTold (cond b [] (statement ∷ []))
      by_test statement input test message at true = tt
      by_test statement input test message at false = (record { k = k; input = input; test = test; message = message; at = at; alive = alive }, tt)

      by_op : (statement : ℕ) (o : PlanOp) → slice_get plan k ≡ Some (record { op = o; statement = statement }) → AllByRecursion IsTold (not_met statement o rows)
      by_op statement (p_assert input test message) at = by_test statement input test message at (list_all (passes test) rows)
      by_op statement (p_load path delim columns) at = tt
      by_op statement (p_filter input test) at = tt
      by_op statement (p_foreach input block) at = tt
      by_op statement (p_group_all input) at = tt
      by_op statement (p_group keyed) at = tt
      by_op statement (p_join keyed side replicated) at = tt
      by_op statement (p_union numbers) at = tt
      by_op statement (p_distinct input) at = tt
      by_op statement (p_order input keys) at = tt
      by_op statement (p_limit input count) at = tt
      by_op statement (p_store input path delim) at = tt
      by_op statement (p_rank input keys dense) at = tt

      by_node : (found : Option PlanNode) → slice_get plan k ≡ found → AllByRecursion IsTold (option_map_or (λ node. not_met node.statement node.op rows) found [])
      by_node None e = tt
      by_node (Some v) e = by_op v.statement v.op e

  on_path : (folding : Folding) (ks : List ℕ) (rows : List (List Tree)) → AllByRecursion (λ k. is_live plan k ≡ true) ks → AllByRecursion IsTold (unmet_on folding plan ks rows)
  on_path folding [] rows h = tt
  on_path folding (k ∷ ks) rows h =
      each-append IsTold (not_met_at plan k rows) (unmet_on folding plan ks (node_step folding plan k rows)) (of_node k rows h.0)
      (on_path folding ks (node_step folding plan k rows) h.1)

-- all elements, by what stands at each place
each_place : {X : Type 0} (P : List X → Type 0) (all xs : List (List X)) (a : ℕ) → ((i : ℕ) → at_place [] all (a + i) ≡ at_place [] xs i) → ((w : ℕ) → P (at_place [] all w))
    → AllByRecursion P xs
each_place P all [] a at h = tt
each_place P all (x ∷ xs) a at h = (
  subst P (at 0) (h (a + 0)),
  each_place P all xs (a + 1) (λ i. (let e : a + 1 + i ≡ a + suc i = omega arith in ap (at_place [] all) e) ∙ at (suc i)) h,
)

module _ (s : Stages) (inputs : List Input) (kept : List Kept) (points : ℕ → List Point) (outs : Outs) (valid : IsPlan s.plan) (run : IsRun s inputs points outs) where
  abbrev told_by : Task → List ℕ
  told_by (t_map t) = task_unmet s.plan inputs outs t
  told_by (t_reduce t) = []
  told_by (t_rank t) = []

  telling : (w : ℕ) (task : Task) (out : TaskOut) → TaskLives s valid task → IsValue s inputs (Some (points w)) outs task out → told_by task ≡ out.unmet
  telling w (t_map t) out lives value = sym (value lives.o lives.at).unmet
  telling w (t_reduce t) out lives value = sym (value lives.0 lives.1).unmet
  telling w (t_rank t) out lives value = sym (value lives.0 lives.1).unmet

  of_task : (task : Task) → TaskLives s valid task → AllByRecursion (IsTold s.plan) (told_by task)
  of_task (t_map t) lives =
      each-sort nat_cmp (IsTold s.plan) (unmet_on (folds s.plan) s.plan t.way.path.nodes (read_rows s.plan inputs outs t))
      (on_path s.plan (folds s.plan) t.way.path.nodes (read_rows s.plan inputs outs t) lives.path.nodes)
  of_task (t_reduce t) lives = tt
  of_task (t_rank t) lives = tt

  abbrev told_in : List TaskOut → List ℕ
  told_in = flat_map (λ out. out.unmet)

  of_wave : (w : ℕ) → AllByRecursion (IsTold s.plan) (told_in (outs_at outs w))
  of_wave w =
      subst (AllByRecursion (IsTold s.plan))
      (each_flat told_by (λ out. out.unmet) (tasks_in s w) (outs_at outs w)
      (each_known (IsValue s inputs (Some (points w)) outs) (λ task out. told_by task ≡ out.unmet) (TaskLives s valid) (telling w) (tasks_in s w) (outs_at outs w)
      (tasks_live s valid w) (run.values w)))
      (all_flat_where (IsTold s.plan) (TaskLives s valid) told_by of_task (tasks_in s w) (tasks_live s valid w))

  all_told : AllByRecursion (IsTold s.plan) (all_unmet outs)
  all_told =
      all_flat_where (IsTold s.plan) (λ wave. AllByRecursion (IsTold s.plan) (told_in wave)) told_in (λ wave h. h) outs
      (each_place (λ wave. AllByRecursion (IsTold s.plan) (told_in wave)) outs outs 0 (λ i. let e : 0 + i ≡ i = omega arith in ap (at_place [] outs) e) of_wave)

  -- ---- live nodes

  abbrev IsLiveNode : PlanNode → Type 0
  IsLiveNode v = (k : ℕ) × (slice_get s.plan k ≡ Some v) × (is_live s.plan k ≡ true)

  found_live : (ks : List ℕ) → AllByRecursion (λ k. is_live s.plan k ≡ true) ks → AllByRecursion IsLiveNode (filter_map (slice_get s.plan) ks)
  found_live [] h = tt
  found_live (k ∷ ks) h = by_node (slice_get s.plan k) refl (found_live ks h.1)
    where
      by_node : (found : Option PlanNode) → slice_get s.plan k ≡ found → AllByRecursion IsLiveNode (filter_map (slice_get s.plan) ks)
          → AllByRecursion IsLiveNode (cons_option found (filter_map (slice_get s.plan) ks))
      by_node None e rest = rest
      by_node (Some v) e rest = ((k, e, h.0), rest)

  among_found : (k : ℕ) (v : PlanNode) → slice_get s.plan k ≡ Some v → (ks : List ℕ) (i : ℕ) → slice_get ks i ≡ Some k → Among v (filter_map (slice_get s.plan) ks)
  among_found k v at [] i there = absurd (cc)
  among_found k v at (j ∷ ks) zero there =
      let same : j ≡ k = cc in
      subst (λ found. Among v (cons_option found (filter_map (slice_get s.plan) ks))) (sym (ap (slice_get s.plan) same ∙ at)) (among_first v (filter_map (slice_get s.plan) ks))
  among_found k v at (j ∷ ks) (suc i) there = by_node (slice_get s.plan j) (among_found k v at ks i there)
    where
      by_node : (found : Option PlanNode) → Among v (filter_map (slice_get s.plan) ks) → Among v (cons_option found (filter_map (slice_get s.plan) ks))
      by_node None h = h
      by_node (Some w) h = among_later v w (filter_map (slice_get s.plan) ks) h

  -- ---- both hold the same

  module _ (given : GiveMeaning s inputs kept outs) where
    abbrev is_unmet : PlanNode → Bool
    is_unmet node = not (met (meaning s.plan inputs kept) node.op)

    over : (n : ℕ) → Among n (all_unmet outs) → Among n (unmet s.plan inputs kept)
    over n among =
        let told = each_at (IsTold s.plan) (all_unmet outs) among.at n among.is all_told in
        let v = asserts_at told.input told.test told.message n in
        let itself : (n == n) ≡ true = eq-eqb n n refl in
        let fails : is_unmet v ≡ true = sym (given.asserts told.k n told.input told.test told.message told.at told.alive) ∙ any_holds (λ m. m == n) (all_unmet outs) n among itself in
        let place = live_at s.plan told.k told.alive in
        let node = among_found told.k v told.at (live s.plan) place.0 place.1 in
        let kept_one = filtered_at is_unmet (live_nodes s.plan) node.at v node.is fails in
        among_map (λ node. node.statement) (filter is_unmet (live_nodes s.plan)) v (record { at = kept_one.0; is = kept_one.1 })

    of_assert : (k : ℕ) (o : PlanOp) (n : ℕ) → slice_get s.plan k ≡ Some (record { op = o; statement = n }) → is_live s.plan k ≡ true
        → not (met (meaning s.plan inputs kept) o) ≡ true → Among n (all_unmet outs)
    of_assert k (p_assert input test message) n at alive fails =
        let held = some_holds (λ m. m == n) (all_unmet outs) (given.asserts k n input test message at alive ∙ fails) in
        subst (λ m. Among m (all_unmet outs)) (eqb-true held.x n held.is) held.among
    of_assert k (p_load path delim columns) n at alive fails = absurd (true≢false (sym fails))
    of_assert k (p_filter input test) n at alive fails = absurd (true≢false (sym fails))
    of_assert k (p_foreach input block) n at alive fails = absurd (true≢false (sym fails))
    of_assert k (p_group_all input) n at alive fails = absurd (true≢false (sym fails))
    of_assert k (p_group keyed) n at alive fails = absurd (true≢false (sym fails))
    of_assert k (p_join keyed side replicated) n at alive fails = absurd (true≢false (sym fails))
    of_assert k (p_union numbers) n at alive fails = absurd (true≢false (sym fails))
    of_assert k (p_distinct input) n at alive fails = absurd (true≢false (sym fails))
    of_assert k (p_order input keys) n at alive fails = absurd (true≢false (sym fails))
    of_assert k (p_limit input count) n at alive fails = absurd (true≢false (sym fails))
    of_assert k (p_store input path delim) n at alive fails = absurd (true≢false (sym fails))
    of_assert k (p_rank input keys dense) n at alive fails = absurd (true≢false (sym fails))

    back : (n : ℕ) → Among n (unmet s.plan inputs kept) → Among n (all_unmet outs)
    back n among =
        let from = mapped_from (λ node. node.statement) (filter is_unmet (live_nodes s.plan)) n among in
        let node = from.x in
        let fails = each_at (λ v. is_unmet v ≡ true) (filter is_unmet (live_nodes s.plan)) from.among.at node from.among.is (each_filtered is_unmet (live_nodes s.plan)) in
        let lives = each_at IsLiveNode (filter is_unmet (live_nodes s.plan)) from.among.at node from.among.is
        (each-filter is_unmet IsLiveNode (live_nodes s.plan) (found_live (live s.plan) (each_filtered (is_live s.plan) _))) in
        subst (λ m. Among m (all_unmet outs)) from.is (of_assert lives.0 node.op node.statement lives.1 lives.2 fails)

    pub first_told : least (all_unmet outs) ≡ least (unmet s.plan inputs kept)
    first_told = sym (least_is (all_unmet outs)) ∙ least_same (all_unmet outs) (unmet s.plan inputs kept) over back ∙ least_is (unmet s.plan inputs kept)

pub told_first : StagesGiveMeaning → RunsTellTheFirstUnmet
told_first law s inputs kept points outs valid some splits run given =
    first_told s inputs kept points outs valid run (law s inputs kept points outs valid some splits run given)
