-- Stages as the code holds them: each wave has its ways once, and a task names its way by the place among them.
use Rattle.std.specs.Prelude.{◌≡◌, ◌<◌, ◌^◌, ⊤, ℕ, List, [], map, length, Option, Some, bytes_eq, slice_get}
use Rattle.std.specs.List.{AllByRecursion, find}
use Rattle.std.specs.Option.{option_map_or}
use Rattle.pig_value.specs.declared.inputs.Column.{Column}
use Rattle.pig_value.specs.declared.inputs.Input.{Input}
use Rattle.pig_plan.specs.Nodes.{Entering, op_at}
use Rattle.pig_plan.specs.Operators.{pieces_of}
use Rattle.pig_plan.specs.Plans.{p_load, plan_of}
use Rattle.pig_plan.specs.Results.{at_place}
use Rattle.pig_plan.specs.declared.nodes.Node.{Node}
use Rattle.pig_physical.specs.Stages.{MapTask, Stages, Task, heads, t_map, t_rank, t_reduce, tasks_in, ways_in}
use Rattle.pig_physical.specs.declared.parts.MapTask as mapping
use Rattle.pig_physical.specs.declared.parts.Part.{Part}
use Rattle.pig_physical.specs.declared.parts.Part.TheVariants as parts
use Rattle.pig_physical.specs.declared.parts.Task as declared
use Rattle.pig_physical.specs.declared.parts.Task.TheVariants as tasks
use Rattle.pig_physical.specs.declared.parts.Way.{Way}
use Rattle.pig_physical.specs.declared.staged.Size.{Size}
use Rattle.pig_physical.specs.declared.staged.Wave.{Wave}

-- ---- the sizes of inputs

-- the lengths of an input's pieces, by its path; none of an input that there isn't
abbrev pub lengths_in : List Size → List ℕ → List ℕ
lengths_in sizes path = option_map_or (λ size. size.lengths) (find (λ size. bytes_eq size.path path) sizes) []

-- what stages are seen as: the nodes, the sizes, the number of reducers and the size of a split
abbrev pub Cut : Type 0
Cut = List Node × (List Size × (ℕ × ℕ))

abbrev pub cut_of : List Node → List Size → ℕ → ℕ → Cut
cut_of nodes sizes reducers split = (nodes, (sizes, (reducers, split)))

abbrev pub staged : Cut → Stages
staged cut =
    record {
      plan = plan_of cut.0;
      sizing = record { lengths = lengths_in cut.1.0; reducers = cut.1.1.0; split = cut.1.1.1 };
    }

-- ---- ways and tasks

abbrev pub entering_of : Way → Entering
entering_of way = record { input = way.input; path = record { source = way.path.source; nodes = way.path.nodes } }

abbrev pub no_way : Entering
no_way = record { input = 0; path = record { source = 0; nodes = [] } }

-- a task with its way among those of its wave
abbrev pub task_of : List Entering → declared.Task → Task
task_of ways (tasks.Map t) = t_map (record { node = t.node; way = at_place no_way ways t.way; part = t.part })
task_of ways (tasks.Reduce t) = t_reduce t
task_of ways (tasks.Rank t) = t_rank t

abbrev pub map_task_of : Stages → mapping.MapTask → MapTask
map_task_of s t = record { node = t.node; way = at_place no_way (ways_in s.plan t.wave) t.way; part = t.part }

-- a task that reads a way names its own wave, and one of so many ways
abbrev pub IsOwn : ℕ → ℕ → declared.Task → Type 0
IsOwn w ways (tasks.Map t) = (t.wave ≡ w) × (t.way < ways)
IsOwn w ways (tasks.Reduce t) = ⊤
IsOwn w ways (tasks.Rank t) = ⊤

-- a task, as it stands in a wave
pub record IsTaskOf (s : Stages) (w : ℕ) (task : declared.Task) : Type 0 where
  pub wave : w < length (heads s.plan)
  pub at : ℕ
  pub stands : slice_get (tasks_in s w) at ≡ Some (task_of (ways_in s.plan w) task)
  pub own : IsOwn w (length (ways_in s.plan w)) task

-- ---- what a task reads

-- where a task reads a LOAD's input, its pieces have the lengths by which stages are cut
abbrev pub HasSource : Stages → MapTask → List Input → Type 0
HasSource s t inputs = (path : List ℕ) (delim : ℕ) (columns : List Column)
    → op_at s.plan t.way.path.source ≡ Some (p_load path delim columns)
    → map length (pieces_of inputs path) ≡ s.sizing.lengths path

-- the inputs that a task's rows are claimed of: a split's those that its host tells, a partition's any
abbrev pub Reads : Option (List Input) → Part → List Input → Type 0
Reads told (parts.Split split) inputs = told ≡ Some inputs
Reads told (parts.Output w at) inputs = ⊤

-- ---- waves

pub record IsWave (s : Stages) (w : ℕ) (wave : Wave) : Type 0 where
  pub head : slice_get (heads s.plan) w ≡ Some wave.head
  pub ways : map entering_of wave.ways ≡ ways_in s.plan w
  pub tasks : map (task_of (ways_in s.plan w)) wave.tasks ≡ tasks_in s w
  pub own : AllByRecursion (IsOwn w (length wave.ways)) wave.tasks
  pub few : length wave.tasks < 2 ^ 32

pub record AreWaves (s : Stages) (waves : List Wave) : Type 0 where
  pub count : length waves ≡ length (heads s.plan)
  pub each : (w : ℕ) (wave : Wave) → slice_get waves w ≡ Some wave → IsWave s w wave
