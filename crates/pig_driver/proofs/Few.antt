-- Waves that are not too large have few tasks.
use Rattle.std.specs.Prelude.{◌≡◌, ◌<◌, ◌≤◌, ◌+◌, ◌^◌, ℕ, Bool, true, false, ◌||◌, nat_lt, List, [], ◌∷◌, length, map, take, Option, Some, None, slice_get, refl}
use Rattle.std.proofs.Common.{ap, sym, ◌∙◌, arith, subst, true≢false}
use Rattle.std.specs.List.{AllByRecursion, flat_map, list_any, range_with_len}
use Rattle.std.specs.Option.{option_map_or}
use Rattle.std.proofs.lemmas.Bool.Decides.{nat_tests}
use Rattle.pig_value.proofs.list_laws.Elementwise.{get-behind}
use Rattle.pig_value.proofs.list_laws.Listing.{each-map, each_at, each_of_all, filter_all}
use Rattle.pig_plan.specs.Nodes.{op_at}
use Rattle.pig_plan.specs.Plans.{PlanOp, p_load, p_filter, p_foreach, p_group_all, p_group, p_join, p_union, p_distinct, p_order, p_limit, p_store, p_assert, p_rank}
use Rattle.pig_plan.specs.Valid.{IsPlan}
use Rattle.pig_physical.specs.Stages.{MapTask, Stages, Task, boundaries, head_of, heads, heads_at, is_map_task, map_tasks, reduce_count, store_tasks, stores, t_map, tasks_by, tasks_in, tasks_of, wave_size}
use Rattle.pig_physical.specs.declared.waves.WaveKind.TheVariants as kinds
use Rattle.pig_cutter.specs.Limits.{has_too_many, is_too_large}
use Rattle.pig_waves.proofs.Places.{range_at}
use Rattle.pig_waves.specs.Laws.{copy_tasks, probe_tasks}
use Rattle.pig_driver.specs.Standing.{FewTasksFit}
use Rattle.pig_driver.proofs.Standing.{WaveAt, copying, its_probes, its_waves, maps, matching, partitions, ranked_partitions, ranking, reduces, storing, wave_at}

any_none : {X : Type 0} (p : X → Bool) (xs : List X) → list_any p xs ≡ false → AllByRecursion (λ x. p x ≡ false) xs
any_none p [] h = tt
any_none p (x ∷ xs) h = let both = neither (p x) (list_any p xs) h in (both.0, any_none p xs both.1)
  where
    neither : (a b : Bool) → (a || b) ≡ false → (a ≡ false) × (b ≡ false)
    neither true b h = absurd (true≢false h)
    neither false b h = (refl, h)

few_partitions : (reducers : ℕ) (o : PlanOp) → reducers ≤ 65536 → reduce_count reducers o ≤ 65536
few_partitions reducers (p_load path delim columns) h = h
few_partitions reducers (p_filter input test) h = h
few_partitions reducers (p_foreach input block) h = h
few_partitions reducers (p_group_all input) h = h
few_partitions reducers (p_group inputs) h = h
few_partitions reducers (p_join inputs side replicated) h = h
few_partitions reducers (p_union inputs) h = h
few_partitions reducers (p_distinct input) h = h
few_partitions reducers (p_order input keys) h = h
few_partitions reducers (p_limit input count) h = omega (arith)
few_partitions reducers (p_store input path delim) h = h
few_partitions reducers (p_assert input test message) h = h
few_partitions reducers (p_rank input keys dense) h = h

module _ (s : Stages) (valid : IsPlan s.plan) (few : has_too_many s ≡ false) (reducers : s.sizing.reducers ≤ 65536) (w : ℕ) (within : w < length (heads s.plan)) where
  abbrev IsMap : Task → Type 0
  IsMap task = is_map_task task ≡ true

  small : wave_size s w ≤ 65536
  small =
      let zeroth : 0 + w ≡ w = omega arith in
      let is : nat_lt (2 ^ 16) (wave_size s w) ≡ false =
      each_at (λ v. is_too_large s v ≡ false) (range_with_len 0 (length (heads s.plan))) w w (range_at 0 (length (heads s.plan)) w within ∙ ap Some zeroth) (any_none (is_too_large s) (range_with_len 0 (length (heads s.plan))) few) in
      grind (arith, nat_tests, is)

  few_maps : AllByRecursion IsMap (tasks_in s w) → length (tasks_in s w) ≤ 65536
  few_maps h = let all = ap length (filter_all is_map_task (tasks_in s w) h) in let bound = small in omega (arith, all, bound)

  -- where they all read ways
  few_reads : (ts : List MapTask) → tasks_in s w ≡ map t_map ts → length (tasks_in s w) ≤ 65536
  few_reads ts are = few_maps (subst (AllByRecursion IsMap) (sym are) (each-map IsMap t_map ts (each_of_all (λ t. true ≡ true) (λ t. refl) ts)))

  module _ (at : w ≡ length (flat_map (heads_at s.plan) (boundaries s.plan))) where
    of_op : (k : ℕ) (found : Option PlanOp) → AllByRecursion IsMap (option_map_or (tasks_by s w kinds.Store k) found [])
    of_op k None = tt
    of_op k (Some p) = each-map IsMap t_map (flat_map (store_tasks s) (stores s.plan)) (each_of_all (λ t. true ≡ true) (λ t. refl) (flat_map (store_tasks s) (stores s.plan)))

    of_stores : (ks : List ℕ) → AllByRecursion IsMap (option_map_or (tasks_of s w) (slice_get (map (λ k. head_of s.plan k kinds.Store) (take 1 ks)) 0) [])
    of_stores [] = tt
    of_stores (k ∷ ks) = of_op k (op_at s.plan k)

    last_maps : AllByRecursion IsMap (tasks_in s w)
    last_maps = subst (λ found. AllByRecursion IsMap (option_map_or (tasks_of s w) found []))
        (sym ((let f : w ≡ length (flat_map (heads_at s.plan) (boundaries s.plan)) + 0 = omega (arith, at) in ap (slice_get (heads s.plan)) f)
        ∙ get-behind (flat_map (heads_at s.plan) (boundaries s.plan)) (map (λ k. head_of s.plan k kinds.Store) (take 1 (stores s.plan))) 0))
        (of_stores (stores s.plan))

  few_in : length (tasks_in s w) ≤ 65536
  few_in = by_wave (wave_at s valid w within)
    where
      by_wave : WaveAt s valid w → length (tasks_in s w) ≤ 65536
      by_wave (maps k is h e) = few_reads (map_tasks s k is.node.op) (ap (tasks_in s) e ∙ (its_waves s valid k is h).maps)
      by_wave (copying k is h e) = few_reads (copy_tasks s k is.node.op) (ap (tasks_in s) e ∙ (its_probes s valid k is h).copies)
      by_wave (matching k is h e) = few_reads (probe_tasks s k is.node.op) (ap (tasks_in s) e ∙ (its_probes s valid k is h).probes)
      by_wave (reduces k is h e) =
          let count = ap (λ v. length (tasks_in s v)) e ∙ partitions s valid k is h in
          let bound = few_partitions s.sizing.reducers is.node.op reducers in
          omega (arith, count, bound)
      by_wave (ranking k is h ranked e) =
          let count = ap (λ v. length (tasks_in s v)) e ∙ ranked_partitions s valid k is h ranked in
          let bound = few_partitions s.sizing.reducers is.node.op reducers in
          omega (arith, count, bound)
      by_wave (storing e) = few_maps (last_maps e)

pub few_tasks : FewTasksFit
few_tasks s valid few reducers w within = few_in s valid few reducers w within
