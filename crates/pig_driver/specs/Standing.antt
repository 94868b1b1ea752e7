-- What stands of the outputs of waves that ended, and that it is what the tasks of the next wave ask for.
use Rattle.std.specs.Prelude.{◌≡◌, ◌<◌, ◌≤◌, ℕ, false, List, length, Some, slice_get}
use Rattle.std.specs.List.{AllByRecursion}
use Rattle.pig_value.specs.declared.inputs.Input.{Input}
use Rattle.pig_typed.specs.declared.blocks.SortKey.{SortKey}
use Rattle.pig_plan.specs.Entries.{sort_keys}
use Rattle.pig_plan.specs.Nodes.{op_at}
use Rattle.pig_plan.specs.Plans.{PlanOp}
use Rattle.pig_plan.specs.Valid.{IsPlan}
use Rattle.pig_physical.specs.Fitting.{HasNamed, HasOutput}
use Rattle.pig_physical.specs.Outs.{Outs, TaskOut, outs_at, runs_in}
use Rattle.pig_physical.specs.Running.{AreSizes}
use Rattle.pig_physical.specs.Stages.{Stages, Task, head_of, heads, tasks_in}
use Rattle.pig_physical.specs.declared.waves.WaveKind.TheVariants as kinds
use Rattle.pig_work.specs.Working.{HasSources}
use Rattle.pig_cutter.specs.Limits.{has_too_many}

-- the runs of a node that sorts are cut into slices, one for each partition
abbrev pub IsSliced : Stages → TaskOut → Type 0
IsSliced s out = length (runs_in out.form) ≡ s.sizing.reducers

-- of each of the first waves all outputs stand, and fit; where rows are sorted, the runs of the map tasks are sliced
pub record AreStanding (s : Stages) (outs : Outs) (w : ℕ) : Type 0 where
  pub counts : (v : ℕ) → v < w → length (outs_at outs v) ≡ length (tasks_in s v)
  pub each : (v at : ℕ) → v < w → at < length (tasks_in s v) → HasOutput s outs v at
  pub sliced : (v k : ℕ) (o : PlanOp) (keys : List SortKey) → v < w
      → slice_get (heads s.plan) v ≡ Some (head_of s.plan k kinds.Map) → op_at s.plan k ≡ Some o → sort_keys o ≡ Some keys
      → AllByRecursion (IsSliced s) (outs_at outs v)

-- What a task names is an output of a wave before its own.
abbrev pub WavesFindWhatTheyName : Type 0
WavesFindWhatTheyName = (s : Stages) → IsPlan s.plan
    → (outs : Outs) (w at : ℕ) (task : Task) → AreStanding s outs w → w < length (heads s.plan)
    → slice_get (tasks_in s w) at ≡ Some task → HasNamed s outs task

-- The inputs that a wave's tasks read are live, so that their pieces have the lengths by which stages are cut.
abbrev pub WavesReadToldInputs : Type 0
WavesReadToldInputs = (s : Stages) → IsPlan s.plan
    → (inputs : List Input) (w : ℕ) → w < length (heads s.plan) → AreSizes s inputs → HasSources s w inputs

-- no wave has more tasks than a pool takes
abbrev pub HaveFewTasks : Stages → Type 0
HaveFewTasks s = (w : ℕ) → w < length (heads s.plan) → length (tasks_in s w) ≤ 65536

abbrev pub FewTasksFit : Type 0
FewTasksFit = (s : Stages) → IsPlan s.plan → has_too_many s ≡ false → s.sizing.reducers ≤ 65536 → HaveFewTasks s
