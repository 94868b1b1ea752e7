-- Stages: a plan, the sizes of its inputs, and the waves of tasks that it is cut into.
-- (Building a High-Level Dataflow System on top of Map-Reduce: "Map-Reduce Plan Compilation". That a task reads one split on
-- one path, and the order of waves and of tasks, are choices of this profile.)
use Rattle.std.specs.Prelude.{ℕ, ◌==◌, ◌+◌, ◌-◌, Bool, true, false, ◌&&◌, not, nat_lt, List, [], ◌∷◌, ◌++◌, map, take, length, slice_get, if◌then◌else◌}
use Rattle.std.specs.List.{filter, flat_map, range_with_len, sum_by}
use Rattle.std.specs.Option.{option_map_or}
use Rattle.pig_storage.specs.Splits.{splits_of}
use Rattle.pig_plan.specs.Nodes.{Entering, entering, inputs_of, is_boundary, is_source, is_store, live, op_at, paths_of}
use Rattle.pig_plan.specs.Plans.{Plan, PlanOp, p_load, p_join, p_limit, p_rank}
use Rattle.pig_plan.specs.Results.{result_at}
use Rattle.pig_physical.specs.Combining.{combines}
use Rattle.pig_physical.specs.declared.parts.Part.{Part}
use Rattle.pig_physical.specs.declared.parts.Part.TheVariants as parts
use Rattle.pig_physical.specs.declared.parts.ReduceTask.{ReduceTask}
use Rattle.pig_physical.specs.declared.waves.WaveHead.{WaveHead}
use Rattle.pig_physical.specs.declared.waves.WaveKind.{WaveKind}
use Rattle.pig_physical.specs.declared.waves.WaveKind.TheVariants as kinds

-- how long the pieces of each input are, by its path, how many reducers there are, and how many bytes a split has
pub record Sizing : Type 0 where
  pub lengths : List ℕ → List ℕ
  pub reducers : ℕ
  pub split : ℕ

pub record Stages : Type 0 where
  pub plan : Plan
  pub sizing : Sizing

-- ---- waves

-- a JOIN that holds every input but the first in memory
abbrev pub is_replicated : PlanOp → Bool
is_replicated (p_join inputs side replicated) = replicated
is_replicated o = false

-- the waves of a boundary node
abbrev pub waves_of : PlanOp → List WaveKind
waves_of (p_join inputs side true) = kinds.Copy ∷ kinds.Probe ∷ []
waves_of (p_rank input keys dense) = kinds.Map ∷ kinds.Reduce ∷ kinds.Rank ∷ []
waves_of o = kinds.Map ∷ kinds.Reduce ∷ []

abbrev pub is_map : WaveKind → Bool
is_map kinds.Map = true
is_map kind = false

abbrev pub head_of : Plan → ℕ → WaveKind → WaveHead
head_of plan k kind = record { kind = kind; node = k; combine = is_map kind && combines plan k }

abbrev pub heads_at : Plan → ℕ → List WaveHead
heads_at plan k = option_map_or (λ o. map (head_of plan k) (waves_of o)) (op_at plan k) []

-- the live boundary nodes, and the STOREs, in order
abbrev pub boundaries : Plan → List ℕ
boundaries plan = filter (λ k. option_map_or is_boundary (op_at plan k) false) (live plan)

abbrev pub stores : Plan → List ℕ
stores plan = filter (λ k. option_map_or is_store (op_at plan k) false) (live plan)

-- the waves of a plan: those of each live boundary node in turn, and one for all STOREs, where there is one
abbrev pub heads : Plan → List WaveHead
heads plan = flat_map (heads_at plan) (boundaries plan) ++ map (λ k. head_of plan k kinds.Store) (take 1 (stores plan))

-- the number of a boundary node's first wave, and of its last one, whose outputs are the node's rows
abbrev pub first_wave : Plan → ℕ → ℕ
first_wave plan k = length (flat_map (heads_at plan) (filter (λ j. nat_lt j k) (boundaries plan)))

abbrev pub last_wave : Plan → ℕ → PlanOp → ℕ
last_wave plan k o = first_wave plan k + (length (waves_of o) - 1)

-- ---- tasks

-- one part of a path's source, put through the path and handed to a node; also what a STORE's tasks are
pub record MapTask : Type 0 where
  pub node : ℕ
  pub way : Entering
  pub part : Part

pub data Task : Type 0 where
  t_map : MapTask → Task
  t_reduce : ReduceTask → Task
  t_rank : ReduceTask → Task

-- a LIMIT has one partition, other nodes as many as there are reducers
abbrev pub reduce_count : ℕ → PlanOp → ℕ
reduce_count reducers (p_limit input count) = 1
reduce_count reducers o = reducers

-- In how many parts the rows of a node come, by how many those of the nodes before it do: the splits of a LOAD, the partitions of
-- a boundary node, of which a replicated JOIN has one for each part of its first input, and where a node works row by row all parts
-- of its inputs.
abbrev pub counted : Sizing → PlanOp → (ℕ → ℕ) → ℕ
counted sizing (p_load path delim columns) count = length (splits_of sizing.split (sizing.lengths path))
counted sizing (p_join inputs side true) count = sum_by count (take 1 (map (λ i. i.input) inputs))
counted sizing o count = if is_source o then reduce_count sizing.reducers o else sum_by count (inputs_of o)

abbrev pub part_count : Stages → ℕ → ℕ
part_count s = result_at (λ k node. counted s.sizing node.op) 0 s.plan

-- the partitions of a boundary node
abbrev pub output_count : Stages → PlanOp → ℕ
output_count s o = counted s.sizing o (part_count s)

-- the parts of a source: the splits of a LOAD, the partitions of a boundary node
abbrev pub parts_of : Stages → ℕ → PlanOp → List Part
parts_of s k (p_load path delim columns) = map parts.Split (splits_of s.sizing.split (s.sizing.lengths path))
parts_of s k o = map (parts.Output (last_wave s.plan k o)) (range_with_len 0 (output_count s o))

abbrev pub parts_at : Stages → ℕ → List Part
parts_at s k = option_map_or (parts_of s k) (op_at s.plan k) []

-- the tasks on a way into a node, and on several ways in turn
abbrev pub path_tasks : Stages → ℕ → Entering → List MapTask
path_tasks s k way = map (λ part. record { node = k; way = way; part = part }) (parts_at s way.path.source)

abbrev pub tasks_on : Stages → ℕ → List Entering → List MapTask
tasks_on s k = flat_map (path_tasks s k)

-- the ways into a boundary node, by its inputs in order, and those to a STORE
abbrev pub ways_into : Plan → PlanOp → List Entering
ways_into plan o = entering (paths_of plan) 0 (inputs_of o)

abbrev pub ways_to : Plan → ℕ → List Entering
ways_to plan k = entering (paths_of plan) 0 (k ∷ [])

abbrev pub map_tasks : Stages → ℕ → PlanOp → List MapTask
map_tasks s k o = tasks_on s k (ways_into s.plan o)

abbrev pub store_tasks : Stages → ℕ → List MapTask
store_tasks s k = tasks_on s k (ways_to s.plan k)

abbrev pub partition_tasks : Stages → ℕ → ℕ → PlanOp → List ReduceTask
partition_tasks s wave k o =
    map (λ p. record { node = k; wave = wave; part = p }) (range_with_len 0 (reduce_count s.sizing.reducers o))

abbrev pub enters_first : MapTask → Bool
enters_first t = t.way.input == 0

-- the tasks of a wave, by its number, its kind and its node
abbrev pub tasks_by : Stages → ℕ → WaveKind → ℕ → PlanOp → List Task
tasks_by s w kinds.Map k o = map t_map (map_tasks s k o)
tasks_by s w kinds.Reduce k o = map t_reduce (partition_tasks s (w - 1) k o)
tasks_by s w kinds.Copy k o = map t_map (filter (λ t. not (enters_first t)) (map_tasks s k o))
tasks_by s w kinds.Probe k o = map t_map (filter enters_first (map_tasks s k o))
tasks_by s w kinds.Rank k o = map t_rank (partition_tasks s (w - 1) k o)
tasks_by s w kinds.Store k o = map t_map (flat_map (store_tasks s) (stores s.plan))

abbrev pub tasks_of : Stages → ℕ → WaveHead → List Task
tasks_of s w head = option_map_or (tasks_by s w head.kind head.node) (op_at s.plan head.node) []

abbrev pub tasks_in : Stages → ℕ → List Task
tasks_in s w = option_map_or (tasks_of s w) (slice_get (heads s.plan) w) []

-- ---- the limit on tasks

-- the ways on which a wave's tasks lie
abbrev pub ways_by : Plan → WaveKind → ℕ → PlanOp → List Entering
ways_by plan kinds.Map k o = ways_into plan o
ways_by plan kinds.Copy k o = filter (λ way. not (way.input == 0)) (ways_into plan o)
ways_by plan kinds.Probe k o = filter (λ way. way.input == 0) (ways_into plan o)
ways_by plan kinds.Store k o = flat_map (ways_to plan) (stores plan)
ways_by plan kind k o = []

abbrev pub ways_in : Plan → ℕ → List Entering
ways_in plan w =
    option_map_or (λ head. option_map_or (ways_by plan head.kind head.node) (op_at plan head.node) []) (slice_get (heads plan) w) []

-- how much a wave counts against the limit: its tasks that read ways, and its ways
abbrev pub is_map_task : Task → Bool
is_map_task (t_map t) = true
is_map_task (t_reduce t) = false
is_map_task (t_rank t) = false

abbrev pub wave_size : Stages → ℕ → ℕ
wave_size s w = length (filter is_map_task (tasks_in s w)) + length (ways_in s.plan w)
