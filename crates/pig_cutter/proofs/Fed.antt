-- A wave's ways and tasks are those of its feeds, in turn.
use Rattle.std.specs.Prelude.{◌≡◌, ◌<◌, ◌==◌, ◌+◌, ℕ, Bool, true, false, not, List, [], ◌∷◌, ◌++◌, map, take, drop, Option, Some, None, slice_get, refl}
use Rattle.std.proofs.Common.{ap, ◌∙◌, sym, arith, append-nil, cond}
use Rattle.std.specs.List.{AllByRecursion, filter, flat_map}
use Rattle.std.specs.Option.{option_map_or}
use Rattle.std.proofs.lemmas.Bool.{ne_eqb}
use Rattle.std.proofs.lemmas.Grind.{flat_map-append}
use Rattle.std.proofs.lemmas.List.Elements.{filter-append}
use Rattle.pig_value.proofs.list_laws.Listing.{each-append, each-map, each_of_all, each_weaker, filter_all, filter_none}
use Rattle.pig_plan.specs.Nodes.{Entering, Path, entering, inputs_of, op_at, paths_of}
use Rattle.pig_plan.specs.Plans.{Plan, PlanOp}
use Rattle.pig_physical.specs.declared.parts.Part.{Part}
use Rattle.pig_physical.specs.declared.parts.ReduceTask.{ReduceTask}
use Rattle.pig_physical.specs.declared.waves.WaveHead.{WaveHead}
use Rattle.pig_physical.specs.declared.waves.WaveKind.{WaveKind}
use Rattle.pig_physical.specs.declared.waves.WaveKind.TheVariants as kinds
use Rattle.pig_physical.specs.Stages.{MapTask, Stages, Task, enters_first, heads, parts_at, path_tasks, store_tasks, stores, t_map, t_rank, t_reduce, tasks_by, tasks_in, tasks_of, tasks_on, ways_by, ways_in, ways_into, ways_to}
use Rattle.pig_cutter.specs.Feeds.{feeds_by, feeds_from, feeds_of, own_feed, partitions_by, partitions_of, ways_on}
use Rattle.pig_cutter.specs.declared.feeding.Feed.{Feed}

abbrev pub enter : ℕ → Path → Entering
enter i path = record { input = i; path = path }

-- ---- ways

module _ (paths : ℕ → List Path) where
  -- ways into inputs that are numbered from one on enter none before it
  all_behind : (i : ℕ) (ns : List ℕ) → 0 < i → AllByRecursion (λ way. (way.input == 0) ≡ false) (entering paths i ns)
  all_behind i [] h = tt
  all_behind i (n ∷ ns) h =
      each-append (λ way. (way.input == 0) ≡ false) (map (enter i) (paths n)) (entering paths (i + 1) ns)
      (each-map (λ way. (way.input == 0) ≡ false) (enter i) (paths n) (each_of_all (λ path. (i == 0) ≡ false) (λ path. ne_eqb i 0 (λ e. omega (arith, h, e))) (paths n)))
      (all_behind (i + 1) ns (omega (arith, h)))

  abbrev is_first : Entering → Bool
  is_first way = way.input == 0

  abbrev is_other : Entering → Bool
  is_other way = not (way.input == 0)

  -- of the ways into all inputs, those into the further ones and those into the first
  copy_ways : (ns : List ℕ) → filter is_other (entering paths 0 ns) ≡ entering paths 1 (drop 1 ns)
  copy_ways [] = refl
  copy_ways (n ∷ ns) =
      filter-append is_other (map (enter 0) (paths n)) (entering paths 1 ns)
      ∙ ap (λ ws. ws ++ filter is_other (entering paths 1 ns))
      (filter_none is_other (map (enter 0) (paths n)) (each-map (λ way. is_other way ≡ false) (enter 0) (paths n) (each_of_all (λ path. is_other (enter 0 path) ≡ false) (λ path. refl) (paths n))))
      ∙ filter_all is_other (entering paths 1 ns)
      (each_weaker (λ way. is_first way ≡ false) (λ way. is_other way ≡ true) (λ way e. ap not e) (entering paths 1 ns) (all_behind 1 ns (omega arith)))

  probe_ways : (ns : List ℕ) → filter is_first (entering paths 0 ns) ≡ entering paths 0 (take 1 ns)
  probe_ways [] = refl
  probe_ways (n ∷ ns) =
      filter-append is_first (map (enter 0) (paths n)) (entering paths 1 ns)
      ∙ ap (λ ws. ws ++ filter is_first (entering paths 1 ns))
      (filter_all is_first (map (enter 0) (paths n)) (each-map (λ way. is_first way ≡ true) (enter 0) (paths n) (each_of_all (λ path. is_first (enter 0 path) ≡ true) (λ path. refl) (paths n))))
      ∙ ap (λ ws. map (enter 0) (paths n) ++ ws) (filter_none is_first (entering paths 1 ns) (all_behind 1 ns (omega arith)))

module _ (plan : Plan) where
  entering_fed : (k i : ℕ) (ns : List ℕ) → entering (paths_of plan) i ns ≡ flat_map (ways_on plan) (feeds_from k i ns)
  entering_fed k i [] = refl
  entering_fed k i (n ∷ ns) = ap (λ ws. map (enter i) (paths_of plan n) ++ ws) (entering_fed k (i + 1) ns)

  own_ways : (ks : List ℕ) → flat_map (ways_to plan) ks ≡ flat_map (ways_on plan) (map own_feed ks)
  own_ways [] = refl
  own_ways (k ∷ ks) = λ i. append-nil (map (enter 0) (paths_of plan k)) i ++ own_ways ks i

  ways_fed : (kind : WaveKind) (k : ℕ) (o : PlanOp) → ways_by plan kind k o ≡ flat_map (ways_on plan) (feeds_by (stores plan) kind k o)
  ways_fed kinds.Map k o = entering_fed k 0 (inputs_of o)
  ways_fed kinds.Copy k o = copy_ways (paths_of plan) (inputs_of o) ∙ entering_fed k 1 (drop 1 (inputs_of o))
  ways_fed kinds.Probe k o = probe_ways (paths_of plan) (inputs_of o) ∙ entering_fed k 0 (take 1 (inputs_of o))
  ways_fed kinds.Store k o = own_ways (stores plan)
  ways_fed kinds.Reduce k o = refl
  ways_fed kinds.Rank k o = refl

-- ---- tasks

module _ (s : Stages) (k : ℕ) (q : Entering → Bool) where
  -- the tasks on the ways that pass a test
  on_passing : (ways : List Entering) → filter (λ t. q t.way) (tasks_on s k ways) ≡ tasks_on s k (filter q ways)
  on_passing [] = refl
  on_passing (way ∷ ways) =
      filter-append (λ t. q t.way) (path_tasks s k way) (tasks_on s k ways)
      ∙ ap (λ ts. filter (λ t. q t.way) (path_tasks s k way) ++ ts) (on_passing ways)
      ∙ by_test (q way) refl
    where
      made : Part → MapTask
      made part = record { node = k; way = way; part = part }

      alike : (b : Bool) → q way ≡ b → AllByRecursion (λ t. q t.way ≡ b) (path_tasks s k way)
      alike b e = each-map (λ t. q t.way ≡ b) made (parts_at s way.path.source) (each_of_all (λ part. q way ≡ b) (λ part. e) (parts_at s way.path.source))

      by_test : (b : Bool) → q way ≡ b → filter (λ t. q t.way) (path_tasks s k way) ++ tasks_on s k (filter q ways) ≡ tasks_on s k (cond b (way ∷ filter q ways) (filter q ways))
      by_test true e = ap (λ ts. ts ++ tasks_on s k (filter q ways)) (filter_all (λ t. q t.way) (path_tasks s k way) (alike true e))
      by_test false e = ap (λ ts. ts ++ tasks_on s k (filter q ways)) (filter_none (λ t. q t.way) (path_tasks s k way) (alike false e))

-- what a wave does to a partition
abbrev pub partition_seen : WaveKind → ReduceTask → Task
partition_seen kinds.Rank t = t_rank t
partition_seen kind t = t_reduce t

module _ (s : Stages) where
  abbrev pub fed_tasks : Feed → List MapTask
  fed_tasks feed = tasks_on s feed.node (ways_on s.plan feed)

  along : (k i : ℕ) (ns : List ℕ) → tasks_on s k (entering (paths_of s.plan) i ns) ≡ flat_map fed_tasks (feeds_from k i ns)
  along k i [] = refl
  along k i (n ∷ ns) =
      flat_map-append (path_tasks s k) (map (enter i) (paths_of s.plan n)) (entering (paths_of s.plan) (i + 1) ns)
      ∙ ap (λ ts. tasks_on s k (map (enter i) (paths_of s.plan n)) ++ ts) (along k (i + 1) ns)

  own_tasks : (ks : List ℕ) → flat_map (store_tasks s) ks ≡ flat_map fed_tasks (map own_feed ks)
  own_tasks [] = refl
  own_tasks (k ∷ ks) = λ i. tasks_on s k (append-nil (map (enter 0) (paths_of s.plan k)) i) ++ own_tasks ks i

  alone : (xs ys : List MapTask) → xs ≡ ys → map t_map xs ≡ map t_map ys ++ []
  alone xs ys e = ap (map t_map) e ∙ sym (append-nil (map t_map ys))

  by_feeds : (w : ℕ) (kind : WaveKind) (k : ℕ) (o : PlanOp)
      → tasks_by s w kind k o ≡ map t_map (flat_map fed_tasks (feeds_by (stores s.plan) kind k o)) ++ map (partition_seen kind) (partitions_by s.sizing.reducers w kind k o)
  by_feeds w kinds.Map k o = alone (tasks_on s k (ways_into s.plan o)) (flat_map fed_tasks (feeds_from k 0 (inputs_of o))) (along k 0 (inputs_of o))
  by_feeds w kinds.Copy k o = alone (filter (λ t. not (enters_first t)) (tasks_on s k (ways_into s.plan o))) (flat_map fed_tasks (feeds_from k 1 (drop 1 (inputs_of o))))
      (on_passing s k (λ way. not (way.input == 0)) (ways_into s.plan o) ∙ ap (tasks_on s k) (copy_ways (paths_of s.plan) (inputs_of o)) ∙ along k 1 (drop 1 (inputs_of o)))
  by_feeds w kinds.Probe k o = alone (filter enters_first (tasks_on s k (ways_into s.plan o))) (flat_map fed_tasks (feeds_from k 0 (take 1 (inputs_of o))))
      (on_passing s k (λ way. way.input == 0) (ways_into s.plan o) ∙ ap (tasks_on s k) (probe_ways (paths_of s.plan) (inputs_of o)) ∙ along k 0 (take 1 (inputs_of o)))
  by_feeds w kinds.Store k o = alone (flat_map (store_tasks s) (stores s.plan)) (flat_map fed_tasks (map own_feed (stores s.plan))) (own_tasks (stores s.plan))
  by_feeds w kinds.Reduce k o = refl
  by_feeds w kinds.Rank k o = refl

module _ (s : Stages) (w : ℕ) (head : WaveHead) (at : slice_get (heads s.plan) w ≡ Some head) where
  pub ways_are_fed : ways_in s.plan w ≡ flat_map (ways_on s.plan) (feeds_of s.plan (stores s.plan) head)
  ways_are_fed =
      ap (λ h. option_map_or {T = WaveHead} (λ head. option_map_or (ways_by s.plan head.kind head.node) (op_at s.plan head.node) []) h []) at
      ∙ by_op (op_at s.plan head.node)
    where
      by_op : (o : Option PlanOp) → option_map_or (ways_by s.plan head.kind head.node) o [] ≡ flat_map (ways_on s.plan) (option_map_or (feeds_by (stores s.plan) head.kind head.node) o [])
      by_op None = refl
      by_op (Some o) = ways_fed s.plan head.kind head.node o

  pub tasks_are_fed : tasks_in s w ≡ map t_map (flat_map (fed_tasks s) (feeds_of s.plan (stores s.plan) head)) ++ map (partition_seen head.kind) (partitions_of s.plan s.sizing.reducers w head)
  tasks_are_fed = ap (λ h. option_map_or (tasks_of s w) h []) at ∙ by_op (op_at s.plan head.node)
    where
      by_op : (o : Option PlanOp) → option_map_or (tasks_by s w head.kind head.node) o []
          ≡ map t_map (flat_map (fed_tasks s) (option_map_or (feeds_by (stores s.plan) head.kind head.node) o []))
          ++ map (partition_seen head.kind) (option_map_or (partitions_by s.sizing.reducers w head.kind head.node) o [])
      by_op None = refl
      by_op (Some o) = by_feeds s w head.kind head.node o
