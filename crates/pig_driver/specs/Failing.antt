-- Why stages gave no outputs, and which waves ended.
use Rattle.std.specs.Prelude.{◌≡◌, ◌<◌, ◌≤◌, ⊤, ℕ, List, [], ◌∷◌, ◌++◌, length}
use Rattle.pig_board.specs.declared.end.TaskEnd.{TaskEnd}
use Rattle.pig_board.specs.End.{end_of}
use Rattle.pig_physical.specs.Stages.{Stages, heads, tasks_in}
use Rattle.pig_pool.specs.Wave.{IsFailedWave}
use Rattle.pig_pool.specs.declared.wave.WaveFault.{WaveFault}
use Rattle.pig_pool.specs.declared.wave.WaveFault.TheVariants as wave_faults
use Rattle.pig_driver.specs.Going.{AreWon}
use Rattle.pig_driver.specs.declared.running.StagesFault.{StagesFault}
use Rattle.pig_driver.specs.declared.running.StagesFault.TheVariants as faults

-- the tasks of the first waves have won, and no other wave ended
pub record HaveWon (s : Stages) (ends : List (List TaskEnd)) : Type 0 where
  pub waves : ℕ
  pub within : waves ≤ length (heads s.plan)
  pub won : AreWon s ends waves

-- All waves before one have won, and that one has failed at a task: the least that has failed as often as the limit says, which is
-- shown.
pub record IsGivenUp (limit : ℕ) (s : Stages) (ends : List (List TaskEnd)) (wave task failed : ℕ) : Type 0 where
  pub before : List (List TaskEnd)
  pub last : List TaskEnd
  pub are : ends ≡ before ++ last ∷ []
  pub won : AreWon s before wave
  pub within : wave < length (heads s.plan)
  pub failing : IsFailedWave limit (length (tasks_in s wave)) task last
  pub shown : failed ≡ (end_of last task).failed

-- what a fault says of the waves that ended
abbrev pub HasFailed : ℕ → Stages → List (List TaskEnd) → StagesFault → Type 0
HasFailed limit s ends (faults.TaskFailed wave task failed) = IsGivenUp limit s ends wave task failed
HasFailed limit s ends faults.OutOfMemory = HaveWon s ends

-- ---- inside

-- the task of a wave's fault is one of the wave's
abbrev pub IsTaskIn : WaveFault → Type 0
IsTaskIn (wave_faults.TaskFailed task end) = task < length end
IsTaskIn wave_faults.OutOfMemory = ⊤

-- How a wave's fault is told: where a task failed, the wave's end is put behind those before it; where memory is wanting, for that too,
-- they are as they were.
abbrev pub IsToldAs : ℕ → WaveFault → List (List TaskEnd) → List (List TaskEnd) → StagesFault → Type 0
IsToldAs wave (wave_faults.TaskFailed task end) olds news (faults.TaskFailed w t failed) =
    (w ≡ wave) × (t ≡ task) × (failed ≡ (end_of end task).failed) × (news ≡ olds ++ end ∷ [])
IsToldAs wave (wave_faults.TaskFailed task end) olds news faults.OutOfMemory = news ≡ olds
IsToldAs wave wave_faults.OutOfMemory olds news (faults.TaskFailed w t failed) = ⊥
IsToldAs wave wave_faults.OutOfMemory olds news faults.OutOfMemory = news ≡ olds
