-- What a first wave of one task gives, and waves of which only the first one copies.
use Rattle.std.specs.Prelude.{◌≡◌, ◌<◌, ℕ, length, Some, slice_get}
use Rattle.pig_physical.specs.Fitting.{Fits}
use Rattle.pig_physical.specs.Outs.{TaskOut}
use Rattle.pig_physical.specs.Stages.{Stages, Task, heads, tasks_in}
use Rattle.pig_physical.specs.declared.waves.WaveHead.{WaveHead}
use Rattle.pig_physical.specs.declared.waves.WaveKind.TheVariants as kinds

-- the output fits the first task of the first wave
pub record FitsFirst (s : Stages) (out : TaskOut) : Type 0 where
  pub task : Task
  pub is_of : slice_get (tasks_in s 0) 0 ≡ Some task
  pub fits : Fits s task out

abbrev pub CopiesFirst : Stages → ℕ → Type 0
CopiesFirst s w = (head : WaveHead) → slice_get (heads s.plan) w ≡ Some head → head.kind ≡ kinds.Copy → w ≡ 0

abbrev pub FirstCopies : Stages → Type 0
FirstCopies s = (w : ℕ) → w < length (heads s.plan) → CopiesFirst s w
