-- The begins that hosts tell of waves that ran one after the other.
use Rattle.std.specs.Prelude.{◌≡◌, ⊤, ℕ, ◌+◌, List, [], ◌∷◌, ◌++◌}
use Rattle.pig_board.specs.declared.end.TaskEnd.{TaskEnd}
use Rattle.pig_pool.specs.Begins.{CrewTells}
use Rattle.pig_pool.specs.Wave.{AreBegun}
use Rattle.pig_driver.specs.declared.running.StagesFault.{StagesFault}
use Rattle.pig_driver.specs.declared.running.StagesFault.TheVariants as faults

-- What hosts tell went from x to y by waves with these ends, the first of them with this number: of each wave they tell the attempts
-- that its end shows.
abbrev pub WavesBegun : ℕ → List (List TaskEnd) → CrewTells → CrewTells → Type 0
WavesBegun wave [] x y = x ≡ y
WavesBegun wave (end ∷ ends) x y = (z : CrewTells) × AreBegun wave end x z × WavesBegun (wave + 1) ends z y

-- where a task has failed, what hosts tell is told of the waves that ended
abbrev pub FaultBegun : List (List TaskEnd) → CrewTells → CrewTells → StagesFault → Type 0
FaultBegun ends x y (faults.TaskFailed wave task failed) = WavesBegun 0 ends x y
FaultBegun ends x y faults.OutOfMemory = ⊤

-- ---- inside

-- one more wave
pub record IsBegunNext (wave : ℕ) (olds news : List (List TaskEnd)) (x y : CrewTells) : Type 0 where
  pub end : List TaskEnd
  pub pushed : news ≡ olds ++ end ∷ []
  pub begun : AreBegun wave end x y

abbrev pub FaultNext : ℕ → List (List TaskEnd) → List (List TaskEnd) → CrewTells → CrewTells → StagesFault → Type 0
FaultNext wave olds news x y (faults.TaskFailed w task failed) = IsBegunNext wave olds news x y
FaultNext wave olds news x y faults.OutOfMemory = ⊤
