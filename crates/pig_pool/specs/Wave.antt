-- What a wave gives.
use Rattle.std.specs.Prelude.{◌≡◌, ℕ, ◌<◌, ◌≤◌, ⊤, ◌⊎◌, count_by, true, Option, Some, None, is_some, List, length, map, slice_get, sum_by}
use Rattle.pig_job.specs.Job.{aside_limit}
use Rattle.pig_job.specs.Rule.{is_attempt, once_below}
use Rattle.pig_board.specs.declared.end.TaskEnd.{TaskEnd}
use Rattle.pig_board.specs.declared.view.View.{View}
use Rattle.pig_board.specs.View.{fails_of}
use Rattle.pig_board.specs.End.{end_of}
use Rattle.pig_pool.specs.Begins.{Turn, turn_begins, turn_lost, CrewTells, Rise}
use Rattle.pig_pool.specs.declared.wave.WaveFault.{WaveFault}
use Rattle.pig_pool.specs.declared.wave.WaveFault.TheVariants.{TaskFailed, OutOfMemory}

-- one right output for each of n tasks, in order
pub record AreOutputs {O : Type 0} (is_right : ℕ → O → Type 0) (n : ℕ) (outs : List O) : Type 0 where
  pub count : length outs ≡ n
  pub right : (t : ℕ) (o : O) → slice_get outs t ≡ Some o → is_right t o

-- at the place of each of n tasks stands a right output
pub record ArePlaced {O : Type 0} (is_right : ℕ → O → Type 0) (n : ℕ) (places : List (Option O)) : Type 0 where
  pub placed : (t : ℕ) → t < n → (o : O) × (slice_get places t ≡ Some (Some o)) × is_right t o

-- each of n tasks has a winner, which is one of its attempts
pub record IsWonWave (n : ℕ) (ends : List TaskEnd) : Type 0 where
  pub count : length ends ≡ n
  pub winner : (t : ℕ) → t < n → (a : ℕ) × ((end_of ends t).winner ≡ Some a) × (a < (end_of ends t).attempts)

-- every task has a winner
abbrev pub AllWon : List TaskEnd → Type 0
AllWon ends = (t : ℕ) → t < length ends → is_some (end_of ends t).winner ≡ true

-- some task has no winner
pub record HasUnwon (ends : List TaskEnd) : Type 0 where
  pub task : ℕ
  pub below : task < length ends
  pub unwon : (end_of ends task).winner ≡ None

-- task t is the least that has failed as often as the limit says
pub record IsLeast (limit t : ℕ) (ends : List TaskEnd) : Type 0 where
  pub below : t < length ends
  pub failed : limit ≤ (end_of ends t).failed
  pub least : (u : ℕ) → u < t → (end_of ends u).failed < limit

-- a wave of n tasks has failed at task t: not every task has a winner, and it is the least that has failed too often
pub record IsFailedWave (limit n t : ℕ) (ends : List TaskEnd) : Type 0 where
  pub count : length ends ≡ n
  pub unwon : HasUnwon ends
  pub least : IsLeast limit t ends

-- what a fault of a wave of n tasks says
abbrev pub HasFailed : ℕ → ℕ → WaveFault → Type 0
HasFailed limit n (TaskFailed task ends) = IsFailedWave limit n task ends
HasFailed limit n OutOfMemory = ⊤

-- a wave has one round, or two, but only where each host's count has risen as far as puts a worker aside
abbrev pub IsRounds : ℕ → List ℕ → List ℕ → Type 0
IsRounds rounds before after = (rounds ≡ 1) ⊎ ((rounds ≡ 2) × Rise aside_limit before after)

-- the begins that all hosts tell of a wave are the attempts of its end, and each failure of a task is one of its
-- begins behind which that host's count stands higher at its next begin, or at the end
pub record AreBegun (wave : ℕ) (ends : List TaskEnd) (x y : CrewTells) : Type 0 where
  -- the hosts, each with its begins behind those of before
  pub turns : List (Turn wave)
  pub start : map (λ z. z.start) turns ≡ x.faults
  pub behind : map (λ z. z.faults) turns ≡ y.faults
  pub before : map (λ z. z.before) turns ≡ x.begun
  pub after : map (λ z. z.after) turns ≡ y.begun
  -- of each task the numbers below that of its attempts, each once
  pub attempts : (t a : ℕ) → sum_by (turn_begins t a) turns ≡ once_below (end_of ends t).attempts a
  pub failed : (t : ℕ) → (end_of ends t).failed ≤ sum_by (turn_lost t) turns

-- the same of a wave that failed, where it has an end
abbrev pub FaultBegun : ℕ → CrewTells → CrewTells → WaveFault → Type 0
FaultBegun wave x y (TaskFailed task ends) = AreBegun wave ends x y
FaultBegun wave x y OutOfMemory = ⊤

-- the attempts and the failures that an end shows are those of the view
pub record EndsAt (v : View) (ends : List TaskEnd) : Type 0 where
  pub attempts : (t a : ℕ) → count_by (is_attempt t a) v.tried ≡ once_below (end_of ends t).attempts a
  pub failed : (t : ℕ) → (end_of ends t).failed ≡ fails_of t v

abbrev pub FaultEndsAt : View → WaveFault → Type 0
FaultEndsAt v (TaskFailed task ends) = EndsAt v ends
FaultEndsAt v OutOfMemory = ⊤

-- the failures of all tasks
abbrev pub failures_in : List TaskEnd → ℕ
failures_in ends = sum_by (λ e. e.failed) ends

-- the failures that a fault shows
abbrev pub failures_of : WaveFault → ℕ
failures_of (TaskFailed task ends) = failures_in ends
failures_of OutOfMemory = 0
