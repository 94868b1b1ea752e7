-- Waves as they are listed: whose rows their tasks read, the ways on which these rows come, and the tasks on each way.
use Rattle.std.specs.Prelude.{◌≡◌, ◌<◌, ◌+◌, ◌-◌, ◌^◌, ℕ, Bool, false, List, [], ◌∷◌, ◌++◌, map, take, drop, length}
use Rattle.std.specs.List.{flat_map, range_with_len}
use Rattle.std.specs.Option.{option_map_or}
use Rattle.pig_plan.specs.Nodes.{Entering, inputs_of, is_store, op_at, paths_of}
use Rattle.pig_plan.specs.Plans.{Plan, PlanOp}
use Rattle.pig_physical.specs.Seen.{entering_of}
use Rattle.pig_physical.specs.Stages.{reduce_count}
use Rattle.pig_physical.specs.declared.parts.Part.{Part}
use Rattle.pig_physical.specs.declared.parts.ReduceTask.{ReduceTask}
use Rattle.pig_physical.specs.declared.parts.Task.{Task}
use Rattle.pig_physical.specs.declared.parts.Task.TheVariants as tasks
use Rattle.pig_physical.specs.declared.staged.Wave.{Wave}
use Rattle.pig_physical.specs.declared.waves.WaveHead.{WaveHead}
use Rattle.pig_physical.specs.declared.waves.WaveKind.{WaveKind}
use Rattle.pig_physical.specs.declared.waves.WaveKind.TheVariants as kinds
use Rattle.pig_cutter.specs.declared.feeding.Feed.{Feed}

-- ---- feeds

abbrev pub is_store_in : Plan → ℕ → Bool
is_store_in plan k = option_map_or is_store (op_at plan k) false

-- the rows of nodes come to the inputs of a node, which are numbered from one on
abbrev pub feeds_from : ℕ → ℕ → List ℕ → List Feed
feeds_from k i [] = []
feeds_from k i (from ∷ more) = record { node = k; input = i; from = from } ∷ feeds_from k (i + 1) more

-- the rows of a STORE are its own
abbrev pub own_feed : ℕ → Feed
own_feed k = record { node = k; input = 0; from = k }

-- Whose rows the tasks of a wave read: a replicated join copies what comes to its further inputs, and probes with what
-- comes to the first one.
abbrev pub feeds_by : List ℕ → WaveKind → ℕ → PlanOp → List Feed
feeds_by stores kinds.Map k o = feeds_from k 0 (inputs_of o)
feeds_by stores kinds.Copy k o = feeds_from k 1 (drop 1 (inputs_of o))
feeds_by stores kinds.Probe k o = feeds_from k 0 (take 1 (inputs_of o))
feeds_by stores kinds.Store k o = map own_feed stores
feeds_by stores kind k o = []

abbrev pub feeds_of : Plan → List ℕ → WaveHead → List Feed
feeds_of plan stores head = option_map_or (feeds_by stores head.kind head.node) (op_at plan head.node) []

-- the ways on which these rows come
abbrev pub ways_on : Plan → Feed → List Entering
ways_on plan feed = map (λ path. record { input = feed.input; path = path }) (paths_of plan feed.from)

-- ---- tasks

-- a task on each part of the source of each way; ways are numbered from one on
abbrev pub made_on : ℕ → ℕ → ℕ → Part → Task
made_on k w way part = tasks.Map (record { node = k; wave = w; way = way; part = part })

abbrev pub tasks_along : (ℕ → List Part) → ℕ → ℕ → ℕ → List Entering → List Task
tasks_along parts k w way [] = []
tasks_along parts k w way (entering ∷ more) =
    map (made_on k w way) (parts entering.path.source) ++ tasks_along parts k w (way + 1) more

abbrev pub tasks_fed : (ℕ → List Part) → Plan → ℕ → ℕ → List Feed → List Task
tasks_fed parts plan w way [] = []
tasks_fed parts plan w way (feed ∷ feeds) =
    tasks_along parts feed.node w way (ways_on plan feed)
    ++ tasks_fed parts plan w (way + length (ways_on plan feed)) feeds

-- the partitions of a node, in a wave that brings together what the wave before it handed on, or gives its rows their ranks
abbrev pub partition_count : ℕ → WaveKind → PlanOp → ℕ
partition_count reducers kinds.Reduce o = reduce_count reducers o
partition_count reducers kinds.Rank o = reduce_count reducers o
partition_count reducers kind o = 0

abbrev pub partitions_by : ℕ → ℕ → WaveKind → ℕ → PlanOp → List ReduceTask
partitions_by reducers w kind k o =
    map (λ p. record { node = k; wave = w - 1; part = p }) (range_with_len 0 (partition_count reducers kind o))

abbrev pub partitions_of : Plan → ℕ → ℕ → WaveHead → List ReduceTask
partitions_of plan reducers w head = option_map_or (partitions_by reducers w head.kind head.node) (op_at plan head.node) []

-- what is done to a partition in a wave
abbrev pub partition_task : WaveKind → ReduceTask → Task
partition_task kinds.Rank t = tasks.Rank t
partition_task kind t = tasks.Reduce t

-- ---- waves

pub record IsCut (plan : Plan) (stores : List ℕ) (parts : ℕ → List Part) (reducers w : ℕ) (head : WaveHead) (wave : Wave)
    : Type 0 where
  pub head_is : wave.head ≡ head
  pub ways_are : map entering_of wave.ways ≡ flat_map (ways_on plan) (feeds_of plan stores head)
  pub tasks_are : wave.tasks ≡ tasks_fed parts plan w 0 (feeds_of plan stores head)
      ++ map (partition_task head.kind) (partitions_of plan reducers w head)
  pub few : length wave.tasks < 2 ^ 32
