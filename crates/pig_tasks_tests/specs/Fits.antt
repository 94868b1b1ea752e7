-- Outputs that fit their tasks, wave by wave, and waves whose tasks sort.
use Rattle.std.specs.Prelude.{◌≡◌, ◌<◌, ℕ, List, length, Some, slice_get}
use Rattle.pig_typed.specs.declared.blocks.SortKey.{SortKey}
use Rattle.pig_plan.specs.Entries.{sort_keys}
use Rattle.pig_plan.specs.Nodes.{op_at}
use Rattle.pig_plan.specs.Plans.{Plan, PlanOp}
use Rattle.pig_physical.specs.Fitting.{Fits, HasAll}
use Rattle.pig_physical.specs.Outs.{Outs, TaskOut}
use Rattle.pig_physical.specs.Stages.{Stages, Task, heads, t_map, t_rank, t_reduce, tasks_in}
use Rattle.pig_physical.specs.declared.waves.WaveHead.{WaveHead}
use Rattle.pig_physical.specs.declared.waves.WaveKind.TheVariants as kinds

-- there is a task at the place of a wave, and the output fits it
pub record FitsAt (s : Stages) (w at : ℕ) (out : TaskOut) : Type 0 where
  pub task : Task
  pub is_of : slice_get (tasks_in s w) at ≡ Some task
  pub fits : Fits s task out

abbrev pub WaveFits : Stages → ℕ → List TaskOut → Type 0
WaveFits s w outs = (at : ℕ) (out : TaskOut) → slice_get outs at ≡ Some out → FitsAt s w at out

abbrev pub AllFit : Stages → Outs → Type 0
AllFit s outs = (w : ℕ) (found : List TaskOut) → slice_get outs w ≡ Some found → WaveFits s w found

-- where a wave copies for a node, all its outputs stand
abbrev pub CopiedAt : Stages → Outs → ℕ → ℕ → Type 0
CopiedAt s outs k w = (head : WaveHead) → slice_get (heads s.plan) w ≡ Some head → head.kind ≡ kinds.Copy → head.node ≡ k → HasAll s outs w

abbrev pub AllCopied : Stages → Outs → ℕ → Type 0
AllCopied s outs k = (w : ℕ) → w < length (heads s.plan) → CopiedAt s outs k w

-- the node sorts rows by keys
pub record IsByKeys (plan : Plan) (k : ℕ) : Type 0 where
  pub op : PlanOp
  pub at : op_at plan k ≡ Some op
  pub keys : List SortKey
  pub sorts : sort_keys op ≡ Some keys

-- the task hands rows to the node
abbrev pub GoesTo : ℕ → Task → Type 0
GoesTo k (t_map t) = t.node ≡ k
GoesTo k (t_reduce t) = ⊥
GoesTo k (t_rank t) = ⊥

abbrev pub AllGoTo : Stages → ℕ → ℕ → Type 0
AllGoTo s w k = (at : ℕ) (task : Task) → slice_get (tasks_in s w) at ≡ Some task → GoesTo k task

-- all tasks of the wave hand rows to one node that sorts
pub record IsSorting (s : Stages) (w : ℕ) : Type 0 where
  pub node : ℕ
  pub order : IsByKeys s.plan node
  pub all : AllGoTo s w node
