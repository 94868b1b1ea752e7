-- The paths of live nodes go through live nodes alone, and the tasks of all waves lie on such paths.
use Rattle.std.specs.Prelude.{◌≡◌, ◌<◌, ◌+◌, ◌-◌, ℕ, zero, suc, Bool, true, false, not, List, [], ◌∷◌, length, map, take, Option, Some, None, slice_get, refl}
use Rattle.std.proofs.Common.{ap, sym, arith, cond, subst}
use Rattle.std.specs.List.{AllByRecursion, filter, flat_map, range_with_len}
use Rattle.std.specs.Option.{option_map, option_map_or}
use Rattle.pig_value.proofs.list_laws.Listing.{each-append, each-filter, each-map, each-take, each_at, each_filtered, each_of_all, each_weaker}
use Rattle.pig_plan.proofs.Paths.{paths_of_node}
use Rattle.pig_plan.specs.Nodes.{Entering, Path, and_then, entering, inputs_of, is_boundary, is_live, is_source, is_store, live, op_at, paths_of}
use Rattle.pig_plan.specs.Plans.{Plan, PlanNode, PlanOp}
use Rattle.pig_plan.specs.Valid.{IsPlan}
use Rattle.pig_physical.specs.declared.waves.WaveHead.{WaveHead}
use Rattle.pig_physical.specs.declared.waves.WaveKind.{WaveKind}
use Rattle.pig_physical.specs.declared.waves.WaveKind.TheVariants as kinds
use Rattle.pig_physical.specs.Stages.{MapTask, Stages, Task, boundaries, enters_first, head_of, heads, heads_at, map_tasks, partition_tasks, parts_at, path_tasks, store_tasks, stores, t_map, t_rank, t_reduce, tasks_by, tasks_in, tasks_of, tasks_on, waves_of, ways_into, ways_to}
use Rattle.pig_reach.proofs.Enough.{inputs_live, live_node}
use Rattle.pig_waves.proofs.Places.{all_flat_where}

module _ (plan : Plan) (valid : IsPlan plan) where
  abbrev Lives : ℕ → Type 0
  Lives k = is_live plan k ≡ true

  -- a path through live nodes
  pub record PathLives (path : Path) : Type 0 where
    pub source : is_live plan path.source ≡ true
    pub nodes : AllByRecursion (λ k. is_live plan k ≡ true) path.nodes

  one_more : (j : ℕ) → Lives j → (path : Path) → PathLives path → PathLives (and_then j path)
  one_more j alive path h = record { source = h.source; nodes = each-append (λ k. is_live plan k ≡ true) path.nodes (j ∷ []) h.nodes (alive, tt) }

  lives_within : (n j : ℕ) → j < n → Lives j → AllByRecursion PathLives (paths_of plan j)
  lives_within zero j below alive = absurd (omega (arith, below))
  lives_within (suc n) j below alive =
      let found = live_node plan j alive in
      subst (AllByRecursion PathLives) (sym (paths_of_node plan valid j found.0 found.1))
      (by_source found.0 found.1 (λ i less lives. lives_within n i (omega (arith, below, less)) lives) (is_source found.0.op))
    where
      by_source : (v : PlanNode) → slice_get plan j ≡ Some v → ((i : ℕ) → i < j → Lives i → AllByRecursion PathLives (paths_of plan i)) → (b : Bool)
          → AllByRecursion PathLives (cond b (record { source = j; nodes = [] } ∷ []) (flat_map (λ i. map (and_then j) (paths_of plan i)) (inputs_of v.op)))
      by_source v at inner true = (record { source = alive; nodes = tt }, tt)
      by_source v at inner false =
          all_flat_where PathLives (λ i. (i < j) × (is_live plan i ≡ true)) (λ i. map (and_then j) (paths_of plan i))
          (λ i h. each-map PathLives (and_then j) (paths_of plan i)
          (each_weaker PathLives (λ path. PathLives (and_then j path)) (one_more j alive) (paths_of plan i) (inner i h.0 h.1)))
          (inputs_of v.op) (inputs_live plan valid j v at alive)

  pub paths_live : (j : ℕ) → is_live plan j ≡ true → AllByRecursion PathLives (paths_of plan j)
  paths_live j alive = lives_within (suc j) j (omega arith) alive

  abbrev pub WayLives : Entering → Type 0
  WayLives way = PathLives way.path

  pub ways_live : (i : ℕ) (ns : List ℕ) → AllByRecursion (λ n. is_live plan n ≡ true) ns → AllByRecursion WayLives (entering (paths_of plan) i ns)
  ways_live i [] h = tt
  ways_live i (n ∷ ns) h =
      each-append WayLives (map (λ path. record { input = i; path = path }) (paths_of plan n)) (entering (paths_of plan) (i + 1) ns)
      (each-map WayLives (λ path. record { input = i; path = path }) (paths_of plan n) (paths_live n h.0)) (ways_live (i + 1) ns h.1)

  -- those into a live node, by its inputs
  pub into_lives : (k : ℕ) (v : PlanNode) → slice_get plan k ≡ Some v → is_live plan k ≡ true → AllByRecursion WayLives (ways_into plan v.op)
  into_lives k v at alive =
      ways_live 0 (inputs_of v.op) (each_weaker (λ i. (i < k) × (is_live plan i ≡ true)) (λ i. is_live plan i ≡ true) (λ i h. h.1) (inputs_of v.op) (inputs_live plan valid k v at alive))

  pub to_lives : (k : ℕ) → is_live plan k ≡ true → AllByRecursion WayLives (ways_to plan k)
  to_lives k alive = ways_live 0 (k ∷ []) (alive, tt)

module _ (s : Stages) (valid : IsPlan s.plan) where
  abbrev IsThere : ℕ → Type 0
  IsThere k = (o : PlanOp) × (op_at s.plan k ≡ Some o)

  pub record MapLives (t : MapTask) : Type 0 where
    pub o : PlanOp
    pub at : op_at s.plan t.node ≡ Some o
    pub path : PathLives s.plan valid t.way.path

  -- a task of a node that there is, on a path of live nodes
  abbrev pub TaskLives : Task → Type 0
  TaskLives (t_map t) = MapLives t
  TaskLives (t_reduce t) = IsThere t.node
  TaskLives (t_rank t) = IsThere t.node

  on_ways : (k : ℕ) (o : PlanOp) → op_at s.plan k ≡ Some o → (ways : List Entering) → AllByRecursion (WayLives s.plan valid) ways → AllByRecursion MapLives (tasks_on s k ways)
  on_ways k o at ways h =
      all_flat_where MapLives (WayLives s.plan valid) (path_tasks s k)
      (λ way lives. each-map MapLives (λ part. record { node = k; way = way; part = part }) (parts_at s way.path.source)
      (each_of_all (λ part. MapLives (record { node = k; way = way; part = part })) (λ part. record { o = o; at = at; path = lives }) (parts_at s way.path.source))) ways h

  store_lives : (k : ℕ) → is_live s.plan k ≡ true → AllByRecursion MapLives (store_tasks s k)
  store_lives k alive =
      let found = live_node s.plan k alive in
      on_ways k found.0.op (ap (option_map (λ n. n.op)) found.1) (ways_to s.plan k) (to_lives s.plan valid k alive)

  pub stores_live : AllByRecursion (λ k. is_live s.plan k ≡ true) (stores s.plan)
  stores_live =
      each-filter (λ k. option_map_or is_store (op_at s.plan k) false) (λ k. is_live s.plan k ≡ true) (live s.plan)
      (each_filtered (is_live s.plan) (range_with_len 0 (length s.plan)))

  pub boundaries_live : AllByRecursion (λ k. is_live s.plan k ≡ true) (boundaries s.plan)
  boundaries_live =
      each-filter (λ k. option_map_or is_boundary (op_at s.plan k) false) (λ k. is_live s.plan k ≡ true) (live s.plan)
      (each_filtered (is_live s.plan) (range_with_len 0 (length s.plan)))

  partitions_live : (w k : ℕ) (o : PlanOp) → op_at s.plan k ≡ Some o → AllByRecursion (λ t. IsThere t.node) (partition_tasks s w k o)
  partitions_live w k o at = each-map (λ t. IsThere t.node) (λ p. record { node = k; wave = w; part = p }) _ (each_of_all (λ p. IsThere k) (λ p. (o, at)) _)

  maps_live : (k : ℕ) (v : PlanNode) → slice_get s.plan k ≡ Some v → is_live s.plan k ≡ true → AllByRecursion MapLives (map_tasks s k v.op)
  maps_live k v at alive = on_ways k v.op (ap (option_map (λ n. n.op)) at) (ways_into s.plan v.op) (into_lives s.plan valid k v at alive)

  by_kind : (w : ℕ) (kind : WaveKind) (k : ℕ) (v : PlanNode) → slice_get s.plan k ≡ Some v → is_live s.plan k ≡ true → AllByRecursion TaskLives (tasks_by s w kind k v.op)
  by_kind w kinds.Map k v at alive = each-map TaskLives t_map (map_tasks s k v.op) (maps_live k v at alive)
  by_kind w kinds.Reduce k v at alive = each-map TaskLives t_reduce (partition_tasks s (w - 1) k v.op) (partitions_live (w - 1) k v.op (ap (option_map (λ n. n.op)) at))
  by_kind w kinds.Copy k v at alive =
      each-map TaskLives t_map (filter (λ t. not (enters_first t)) (map_tasks s k v.op))
      (each-filter (λ t. not (enters_first t)) MapLives (map_tasks s k v.op) (maps_live k v at alive))
  by_kind w kinds.Probe k v at alive =
      each-map TaskLives t_map (filter enters_first (map_tasks s k v.op))
      (each-filter enters_first MapLives (map_tasks s k v.op) (maps_live k v at alive))
  by_kind w kinds.Rank k v at alive = each-map TaskLives t_rank (partition_tasks s (w - 1) k v.op) (partitions_live (w - 1) k v.op (ap (option_map (λ n. n.op)) at))
  by_kind w kinds.Store k v at alive =
      each-map TaskLives t_map (flat_map (store_tasks s) (stores s.plan))
      (all_flat_where MapLives (λ j. is_live s.plan j ≡ true) (store_tasks s) store_lives (stores s.plan) stores_live)

  -- each wave is one of a live node
  abbrev HeadLives : WaveHead → Type 0
  HeadLives head = is_live s.plan head.node ≡ true

  heads_live : AllByRecursion HeadLives (heads s.plan)
  heads_live =
      each-append HeadLives (flat_map (heads_at s.plan) (boundaries s.plan)) (map (λ k. head_of s.plan k kinds.Store) (take 1 (stores s.plan)))
      (all_flat_where HeadLives (λ k. is_live s.plan k ≡ true) (heads_at s.plan) (λ k alive. own k alive (op_at s.plan k)) (boundaries s.plan) boundaries_live)
      (each-map HeadLives (λ k. head_of s.plan k kinds.Store) (take 1 (stores s.plan)) (each-take (λ k. is_live s.plan k ≡ true) 1 (stores s.plan) stores_live))
    where
      own : (k : ℕ) → is_live s.plan k ≡ true → (found : Option PlanOp) → AllByRecursion HeadLives (option_map_or (λ o. map (head_of s.plan k) (waves_of o)) found [])
      own k alive None = tt
      own k alive (Some o) = each-map HeadLives (head_of s.plan k) (waves_of o) (each_of_all (λ kind. is_live s.plan k ≡ true) (λ kind. alive) (waves_of o))

  pub tasks_live : (w : ℕ) → AllByRecursion TaskLives (tasks_in s w)
  tasks_live w = by_head (slice_get (heads s.plan) w) refl
    where
      of_head : (head : WaveHead) → is_live s.plan head.node ≡ true → AllByRecursion TaskLives (tasks_of s w head)
      of_head head alive =
          let found = live_node s.plan head.node alive in
          subst (λ o. AllByRecursion TaskLives (option_map_or (tasks_by s w head.kind head.node) o [])) (sym (ap (option_map (λ n. n.op)) found.1))
          (by_kind w head.kind head.node found.0 found.1 alive)

      by_head : (found : Option WaveHead) → slice_get (heads s.plan) w ≡ found → AllByRecursion TaskLives (option_map_or (tasks_of s w) found [])
      by_head None e = tt
      by_head (Some head) e = of_head head (each_at HeadLives (heads s.plan) w head e heads_live)
