-- A wave sorts where it is that of the map tasks of a node that sorts, as its first task tells.
use Rattle.std.specs.Prelude.{◌≡◌, ◌<◌, ◌+◌, ⊤, ℕ, Bool, true, false, not, List, [], ◌∷◌, length, map, take, Option, Some, None, slice_get, refl}
use Rattle.std.proofs.Common.{ap, sym, ◌∙◌, arith, subst, true≢false}
use Rattle.std.specs.List.{AllByRecursion, flat_map}
use Rattle.std.specs.Option.{is_some, option_map_or}
use Rattle.pig_value.proofs.list_laws.Elementwise.{get-behind}
use Rattle.pig_value.proofs.list_laws.Listing.{each-filter, each-map, each_filtered, each_of_all, each_weaker, some_same}
use Rattle.pig_typed.specs.declared.blocks.SortKey.{SortKey}
use Rattle.pig_plan.specs.Entries.{sort_keys}
use Rattle.pig_plan.specs.Nodes.{is_store, live, op_at}
use Rattle.pig_plan.specs.Plans.{PlanOp, p_load, p_filter, p_foreach, p_group_all, p_group, p_join, p_union, p_distinct, p_order, p_limit, p_store, p_assert, p_rank}
use Rattle.pig_plan.specs.Valid.{IsPlan}
use Rattle.pig_physical.specs.Stages.{MapTask, Stages, Task, boundaries, enters_first, first_wave, head_of, heads, heads_at, is_replicated, map_tasks, partition_tasks, store_tasks, stores, t_map, t_rank, t_reduce, tasks_by, tasks_in, tasks_of, ways_into, ways_to}
use Rattle.pig_physical.specs.declared.waves.WaveKind.{WaveKind}
use Rattle.pig_physical.specs.declared.waves.WaveKind.TheVariants as kinds
use Rattle.pig_waves.proofs.Places.{all_flat_where}
use Rattle.pig_waves.proofs.Tasks.{name_node}
use Rattle.pig_waves.specs.Laws.{copy_tasks, probe_tasks, ranks}
use Rattle.pig_driver.specs.Sorting.{op_sorts, task_sorts, wave_sorts}
use Rattle.pig_driver.proofs.Standing.{ByKey, IsBoundaryAt, Replicated, WaveAt, copying, its_copy_head, its_head, its_last_head, its_probe_head, its_probes, its_rank_head, its_waves}
use Rattle.pig_driver.proofs.Standing.{maps, matching, op_here, ranking, reduces, storing, wave_at}

no_keys : (found : Option (List SortKey)) → is_some found ≡ false → found ≡ None
no_keys None h = refl
no_keys (Some keys) h = absurd (true≢false h)

some_keys : (found : Option (List SortKey)) → is_some found ≡ true → (keys : List SortKey) × (found ≡ Some keys)
some_keys None h = absurd (true≢false (sym h))
some_keys (Some keys) h = (keys, refl)

store_sorts_none : (o : PlanOp) → is_store o ≡ true → sort_keys o ≡ None
store_sorts_none (p_load path delim columns) h = absurd (true≢false (sym h))
store_sorts_none (p_filter input test) h = absurd (true≢false (sym h))
store_sorts_none (p_foreach input block) h = absurd (true≢false (sym h))
store_sorts_none (p_group_all input) h = absurd (true≢false (sym h))
store_sorts_none (p_group inputs) h = absurd (true≢false (sym h))
store_sorts_none (p_join inputs side replicated) h = absurd (true≢false (sym h))
store_sorts_none (p_union inputs) h = absurd (true≢false (sym h))
store_sorts_none (p_distinct input) h = absurd (true≢false (sym h))
store_sorts_none (p_order input keys) h = absurd (true≢false (sym h))
store_sorts_none (p_limit input count) h = absurd (true≢false (sym h))
store_sorts_none (p_store input path delim) h = refl
store_sorts_none (p_assert input test message) h = absurd (true≢false (sym h))
store_sorts_none (p_rank input keys dense) h = absurd (true≢false (sym h))

probes_sort_none : (o : PlanOp) → is_replicated o ≡ true → sort_keys o ≡ None
probes_sort_none (p_join inputs side replicated) h = refl
probes_sort_none (p_load path delim columns) h = absurd (true≢false (sym h))
probes_sort_none (p_filter input test) h = absurd (true≢false (sym h))
probes_sort_none (p_foreach input block) h = absurd (true≢false (sym h))
probes_sort_none (p_group_all input) h = absurd (true≢false (sym h))
probes_sort_none (p_group inputs) h = absurd (true≢false (sym h))
probes_sort_none (p_union inputs) h = absurd (true≢false (sym h))
probes_sort_none (p_distinct input) h = absurd (true≢false (sym h))
probes_sort_none (p_order input keys) h = absurd (true≢false (sym h))
probes_sort_none (p_limit input count) h = absurd (true≢false (sym h))
probes_sort_none (p_store input path delim) h = absurd (true≢false (sym h))
probes_sort_none (p_assert input test message) h = absurd (true≢false (sym h))
probes_sort_none (p_rank input keys dense) h = absurd (true≢false (sym h))

is_map_kind : WaveKind → Bool
is_map_kind kinds.Map = true
is_map_kind kind = false

module _ (s : Stages) (valid : IsPlan s.plan) (w : ℕ) (within : w < length (heads s.plan)) where
  -- a task whose node, where it is a map task, sorts nothing
  abbrev pub Unsorted : Task → Type 0
  Unsorted (t_map t) = (o : PlanOp) → op_at s.plan t.node ≡ Some o → sort_keys o ≡ None
  Unsorted (t_reduce t) = ⊤
  Unsorted (t_rank t) = ⊤

  -- where the wave's head is that of a node that sorts, there are no tasks
  abbrev pub SortsNothing : Type 0
  SortsNothing = (k : ℕ) (o : PlanOp) (keys : List SortKey) → slice_get (heads s.plan) w ≡ Some (head_of s.plan k kinds.Map) → op_at s.plan k ≡ Some o → sort_keys o ≡ Some keys → tasks_in s w ≡ []

  pub record IsPlain : Type 0 where
    pub tasks : AllByRecursion Unsorted (tasks_in s w)
    pub none : SortsNothing

  pub record IsSorting : Type 0 where
    pub k : ℕ
    pub is : IsBoundaryAt s valid k
    pub by_key : ByKey s valid k is
    pub keys : List SortKey
    pub by : sort_keys is.node.op ≡ Some keys
    pub at : w ≡ first_wave s.plan k

  other_kind : (k j : ℕ) (kind : WaveKind) → slice_get (heads s.plan) w ≡ Some (head_of s.plan j kind) → slice_get (heads s.plan) w ≡ Some (head_of s.plan k kinds.Map) → is_map_kind kind ≡ true
  unfolding is_map_kind
  other_kind k j kind at by = ap is_map_kind (ap (λ h. h.kind) (some_same (head_of s.plan j kind) (head_of s.plan k kinds.Map) (sym at ∙ by)))

  none_there : (o : PlanOp) (found : Option (List SortKey)) (keys : List SortKey) → found ≡ None → found ≡ Some keys → tasks_in s w ≡ []
  none_there o found keys h g = absurd (let e : None ≡ Some keys = sym h ∙ g in cc)

  -- the first of tasks whose nodes sort nothing
  first_unsorted : (ts : List Task) → AllByRecursion Unsorted ts → option_map_or (task_sorts s.plan) (slice_get ts 0) false ≡ false
  first_unsorted [] h = refl
  first_unsorted (t_map t ∷ ts) h = by_op (op_at s.plan t.node) refl
    where
      by_op : (found : Option PlanOp) → op_at s.plan t.node ≡ found → option_map_or op_sorts (op_at s.plan t.node) false ≡ false
      by_op None e = ap (λ found. option_map_or op_sorts found false) e
      by_op (Some p) e = ap (λ found. option_map_or op_sorts found false) e ∙ ap is_some (h.0 p e)
  first_unsorted (t_reduce t ∷ ts) h = refl
  first_unsorted (t_rank t ∷ ts) h = refl

  plain_sorts_none : IsPlain → wave_sorts s w ≡ false
  plain_sorts_none plain = first_unsorted (tasks_in s w) plain.tasks

  -- ---- the map tasks of a node

  module _ (k : ℕ) (is : IsBoundaryAt s valid k) (by_key : ByKey s valid k is) (at : w ≡ first_wave s.plan k) where
    abbrev o : PlanOp
    o = is.node.op

    tasks_are : tasks_in s w ≡ map t_map (map_tasks s k o)
    tasks_are = ap (tasks_in s) at ∙ (its_waves s valid k is by_key).maps

    named : AllByRecursion (λ t. t.node ≡ k) (map_tasks s k o)
    named = name_node s k (ways_into s.plan o)

    own_op : (t : MapTask) → t.node ≡ k → op_at s.plan t.node ≡ Some o
    own_op t e = ap (op_at s.plan) e ∙ op_here s valid k is.node is.at

    first_tells : (ts : List MapTask) → AllByRecursion (λ t. t.node ≡ k) ts → (t : MapTask) (more : List MapTask) → ts ≡ t ∷ more
        → option_map_or (task_sorts s.plan) (slice_get (map t_map ts) 0) false ≡ op_sorts o
    first_tells ts h t more e =
        ap (λ us. option_map_or (task_sorts s.plan) (slice_get (map t_map us) 0) false) e
        ∙ ap (λ found. option_map_or op_sorts found false) (own_op t (subst (AllByRecursion (λ t. t.node ≡ k)) e h).0)

    here_head : slice_get (heads s.plan) w ≡ Some (head_of s.plan k kinds.Map)
    here_head = ap (slice_get (heads s.plan)) at ∙ its_head s valid k is by_key

    same_op : (j : ℕ) (p : PlanOp) → slice_get (heads s.plan) w ≡ Some (head_of s.plan j kinds.Map) → op_at s.plan j ≡ Some p → o ≡ p
    same_op j p by known =
        let same : k ≡ j = ap (λ h. h.node) (some_same (head_of s.plan k kinds.Map) (head_of s.plan j kinds.Map) (sym here_head ∙ by)) in
        some_same o p (sym (op_here s valid k is.node is.at) ∙ ap (op_at s.plan) same ∙ known)

    sorts_here : wave_sorts s w ≡ option_map_or (task_sorts s.plan) (slice_get (map t_map (map_tasks s k o)) 0) false
    sorts_here = ap (λ ts. option_map_or (task_sorts s.plan) (slice_get ts 0) false) tasks_are

    plain_none : map_tasks s k o ≡ [] → IsPlain
    plain_none none =
        let empty : tasks_in s w ≡ [] = tasks_are ∙ ap (map t_map) none in
        record { tasks = subst (AllByRecursion Unsorted) (sym empty) tt; none = λ j p keys by known h. empty }

    plain_some : sort_keys o ≡ None → IsPlain
    plain_some h = record {
      tasks = subst (AllByRecursion Unsorted) (sym tasks_are)
          (each-map Unsorted t_map (map_tasks s k o)
          (each_weaker (λ t. t.node ≡ k) (λ t. (p : PlanOp) → op_at s.plan t.node ≡ Some p → sort_keys p ≡ None)
          (λ t e p known. ap sort_keys (some_same p o (sym known ∙ own_op t e)) ∙ h) (map_tasks s k o) named));
      none = λ j p keys by known found. none_there p (sort_keys p) keys (ap sort_keys (sym (same_op j p by known)) ∙ h) found;
    }

    plain_maps : (ts : List MapTask) → map_tasks s k o ≡ ts → wave_sorts s w ≡ false → IsPlain
    plain_maps [] e h = plain_none e
    plain_maps (t ∷ more) e h = plain_some (no_keys (sort_keys o) (sym (first_tells (map_tasks s k o) named t more e) ∙ sym sorts_here ∙ h))

    sorting_maps : (ts : List MapTask) → map_tasks s k o ≡ ts → wave_sorts s w ≡ true → IsSorting
    sorting_maps [] e h = absurd (true≢false (sym h ∙ sorts_here ∙ ap (λ us. option_map_or (task_sorts s.plan) (slice_get (map t_map us) 0) false) e))
    sorting_maps (t ∷ more) e h =
        let found = some_keys (sort_keys o) (sym (first_tells (map_tasks s k o) named t more e) ∙ sym sorts_here ∙ h) in
        record { k = k; is = is; by_key = by_key; keys = found.0; by = found.1; at = at }

  -- ---- the tasks of a replicated JOIN

  module _ (k : ℕ) (is : IsBoundaryAt s valid k) (replicated : Replicated s valid k is) where
    join_op : (t : MapTask) → t.node ≡ k → (o : PlanOp) → op_at s.plan t.node ≡ Some o → sort_keys o ≡ None
    join_op t e o known =
        probes_sort_none o (ap is_replicated (some_same o is.node.op (sym known ∙ ap (op_at s.plan) e ∙ op_here s valid k is.node is.at)) ∙ replicated)

    -- those of one of its waves
    plain_tasks : (kind : WaveKind) → slice_get (heads s.plan) w ≡ Some (head_of s.plan k kind) → is_map_kind kind ≡ false
        → (ts : List MapTask) → AllByRecursion (λ t. t.node ≡ k) ts → tasks_in s w ≡ map t_map ts → IsPlain
    plain_tasks kind head other ts own are = record {
      tasks = subst (AllByRecursion Unsorted) (sym are)
          (each-map Unsorted t_map ts
          (each_weaker (λ t. t.node ≡ k) (λ t. (o : PlanOp) → op_at s.plan t.node ≡ Some o → sort_keys o ≡ None) (λ t e. join_op t e) ts own));
      none = λ j p keys by known found. absurd (true≢false (sym (other_kind j k kind head by) ∙ other));
    }

    join_named : AllByRecursion (λ t. t.node ≡ k) (map_tasks s k is.node.op)
    join_named = name_node s k (ways_into s.plan is.node.op)

    plain_copies : w ≡ first_wave s.plan k → IsPlain
    unfolding is_map_kind
    plain_copies at =
        plain_tasks kinds.Copy (ap (slice_get (heads s.plan)) at ∙ its_copy_head s valid k is replicated) refl (copy_tasks s k is.node.op)
        (each-filter (λ t. not (enters_first t)) (λ t. t.node ≡ k) (map_tasks s k is.node.op) join_named)
        (ap (tasks_in s) at ∙ (its_probes s valid k is replicated).copies)

    plain_probes : w ≡ first_wave s.plan k + 1 → IsPlain
    unfolding is_map_kind
    plain_probes at =
        plain_tasks kinds.Probe (ap (slice_get (heads s.plan)) at ∙ its_probe_head s valid k is replicated) refl (probe_tasks s k is.node.op)
        (each-filter enters_first (λ t. t.node ≡ k) (map_tasks s k is.node.op) join_named)
        (ap (tasks_in s) at ∙ (its_probes s valid k is replicated).probes)

  -- ---- reduce tasks

  module _ (k : ℕ) (is : IsBoundaryAt s valid k) (by_key : ByKey s valid k is) (at : w ≡ first_wave s.plan k + 1) where
    reduces_are : tasks_in s w ≡ map t_reduce (partition_tasks s (first_wave s.plan k) k is.node.op)
    reduces_are = ap (tasks_in s) at ∙ (its_waves s valid k is by_key).reduces

    reduce_head : slice_get (heads s.plan) w ≡ Some (head_of s.plan k kinds.Reduce)
    reduce_head = ap (slice_get (heads s.plan)) at ∙ its_last_head s valid k is by_key

    plain_reduces : IsPlain
    unfolding is_map_kind
    plain_reduces = record {
      tasks = subst (AllByRecursion Unsorted) (sym reduces_are) (each-map Unsorted t_reduce _ (each_of_all (λ t. ⊤) (λ t. tt) _));
      none = λ j p keys by known found. absurd (true≢false (sym (other_kind j k kinds.Reduce reduce_head by)));
    }

  -- ---- rank tasks

  module _ (k : ℕ) (is : IsBoundaryAt s valid k) (by_key : ByKey s valid k is) (ranked : ranks is.node.op ≡ true) (at : w ≡ first_wave s.plan k + 2) where
    ranks_are : tasks_in s w ≡ map t_rank (partition_tasks s (first_wave s.plan k + 1) k is.node.op)
    ranks_are = ap (tasks_in s) at ∙ (its_waves s valid k is by_key).ranks ranked

    rank_head : slice_get (heads s.plan) w ≡ Some (head_of s.plan k kinds.Rank)
    rank_head = ap (slice_get (heads s.plan)) at ∙ its_rank_head s valid k is by_key ranked

    plain_ranks : IsPlain
    unfolding is_map_kind
    plain_ranks = record {
      tasks = subst (AllByRecursion Unsorted) (sym ranks_are) (each-map Unsorted t_rank _ (each_of_all (λ t. ⊤) (λ t. tt) _));
      none = λ j p keys by known found. absurd (true≢false (sym (other_kind j k kinds.Rank rank_head by)));
    }

  -- ---- the STOREs' tasks

  abbrev is_storing : ℕ → Bool
  is_storing k = option_map_or is_store (op_at s.plan k) false

  storing_op : (k : ℕ) (found : Option PlanOp) → op_at s.plan k ≡ found → option_map_or is_store found false ≡ true → (p : PlanOp) → op_at s.plan k ≡ Some p → sort_keys p ≡ None
  storing_op k None e h p known = absurd (true≢false (sym h))
  storing_op k (Some o) e h p known = store_sorts_none p (ap is_store (some_same p o (sym known ∙ e)) ∙ h)

  abbrev SortsNone : MapTask → Type 0
  SortsNone t = (p : PlanOp) → op_at s.plan t.node ≡ Some p → sort_keys p ≡ None

  stores_unsorted : AllByRecursion SortsNone (flat_map (store_tasks s) (stores s.plan))
  stores_unsorted =
      all_flat_where SortsNone (λ k. is_storing k ≡ true) (store_tasks s)
      (λ k h. each_weaker (λ t. t.node ≡ k) SortsNone (λ t e p known. storing_op k (op_at s.plan k) refl h p (ap (op_at s.plan) (sym e) ∙ known)) (store_tasks s k) (name_node s k (ways_to s.plan k)))
      (stores s.plan) (each_filtered is_storing (live s.plan))

  module _ (at : w ≡ length (flat_map (heads_at s.plan) (boundaries s.plan))) where
    last_head : slice_get (heads s.plan) w ≡ slice_get (map (λ k. head_of s.plan k kinds.Store) (take 1 (stores s.plan))) 0
    last_head =
        (let f : w ≡ length (flat_map (heads_at s.plan) (boundaries s.plan)) + 0 = omega (arith, at) in ap (slice_get (heads s.plan)) f)
        ∙ get-behind (flat_map (heads_at s.plan) (boundaries s.plan)) (map (λ k. head_of s.plan k kinds.Store) (take 1 (stores s.plan))) 0

    of_op : (k : ℕ) (found : Option PlanOp) → AllByRecursion Unsorted (option_map_or (tasks_by s w kinds.Store k) found [])
    of_op k None = tt
    of_op k (Some p) = each-map Unsorted t_map (flat_map (store_tasks s) (stores s.plan)) stores_unsorted

    of_stores : (ks : List ℕ) → AllByRecursion Unsorted (option_map_or (tasks_of s w) (slice_get (map (λ k. head_of s.plan k kinds.Store) (take 1 ks)) 0) [])
    of_stores [] = tt
    of_stores (k ∷ ks) = of_op k (op_at s.plan k)

    all_unsorted : AllByRecursion Unsorted (tasks_in s w)
    all_unsorted = subst (λ found. AllByRecursion Unsorted (option_map_or (tasks_of s w) found [])) (sym last_head) (of_stores (stores s.plan))

    no_map : (ks : List ℕ) (j : ℕ) → slice_get (heads s.plan) w ≡ slice_get (map (λ k. head_of s.plan k kinds.Store) (take 1 ks)) 0 → slice_get (heads s.plan) w ≡ Some (head_of s.plan j kinds.Map) → tasks_in s w ≡ []
    unfolding is_map_kind
    no_map [] j e by = absurd (let f : None ≡ Some (head_of s.plan j kinds.Map) = sym e ∙ by in cc)
    no_map (k ∷ ks) j e by = absurd (true≢false (sym (other_kind j k kinds.Store e by)))

    plain_stores : IsPlain
    plain_stores = record { tasks = all_unsorted; none = λ j p keys by known found. no_map (stores s.plan) j last_head by }

  pub plain_wave : wave_sorts s w ≡ false → IsPlain
  plain_wave h = by_wave (wave_at s valid w within)
    where
      by_wave : WaveAt s valid w → IsPlain
      by_wave (maps k is by_key e) = plain_maps k is by_key e (map_tasks s k is.node.op) refl h
      by_wave (reduces k is by_key e) = plain_reduces k is by_key e
      by_wave (ranking k is by_key ranked e) = plain_ranks k is by_key ranked e
      by_wave (copying k is replicated e) = plain_copies k is replicated e
      by_wave (matching k is replicated e) = plain_probes k is replicated e
      by_wave (storing e) = plain_stores e

  pub sorting_wave : wave_sorts s w ≡ true → IsSorting
  sorting_wave h = by_wave (wave_at s valid w within)
    where
      by_wave : WaveAt s valid w → IsSorting
      by_wave (maps k is by_key e) = sorting_maps k is by_key e (map_tasks s k is.node.op) refl h
      by_wave (reduces k is by_key e) = absurd (true≢false (sym h ∙ plain_sorts_none (plain_reduces k is by_key e)))
      by_wave (ranking k is by_key ranked e) = absurd (true≢false (sym h ∙ plain_sorts_none (plain_ranks k is by_key ranked e)))
      by_wave (copying k is replicated e) = absurd (true≢false (sym h ∙ plain_sorts_none (plain_copies k is replicated e)))
      by_wave (matching k is replicated e) = absurd (true≢false (sym h ∙ plain_sorts_none (plain_probes k is replicated e)))
      by_wave (storing e) = absurd (true≢false (sym h ∙ plain_sorts_none (plain_stores e)))
