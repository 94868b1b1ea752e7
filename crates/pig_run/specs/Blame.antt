-- The clauses of the top call that need no shelf: which words, which counts of devices and which waves an answer goes with.
use Rattle.std.specs.Prelude.{◌≡◌, ◌<◌, ◌≤◌, ◌+◌, ◌⊎◌, ◌++◌, ◌∷◌, [], ℕ, List, Option, Some, None, drop, length, map, take}
use Rattle.std.specs.List.{AllByRecursion, sum_by}
use Rattle.pig_value.specs.declared.inputs.Input.{Input}
use Rattle.pig_outside.specs.Calls.{Attempt}
use Rattle.pig_board.specs.End.{end_of}
use Rattle.pig_board.specs.declared.end.TaskEnd.{TaskEnd}
use Rattle.pig_pool.specs.Begins.{CrewTells, crew_tells}
use Rattle.pig_pool.specs.Wave.{HasUnwon, IsWonWave, failures_in}
use Rattle.pig_driver.specs.Begun.{WavesBegun}
use Rattle.pig_words.specs.declared.words.Command.{Command}
use Rattle.pig_run.specs.declared.outcome.RunFault.{RunFault}
use Rattle.pig_run.specs.declared.outcome.RunFault.TheVariants as fault
use Rattle.pig_run.specs.Due.{AreWords, HasWords, IsDemo, Line}

-- Usage is answered only to words that are no command
abbrev pub UsageIsOff : Line → Option RunFault → Type 0
UsageIsOff line answer = answer ≡ Some fault.Usage → ¬ HasWords line

-- and to these words nothing else is answered but want of memory
abbrev pub OffIsUsage : Line → Option RunFault → Type 0
OffIsUsage line answer = ¬ HasWords line → (answer ≡ Some fault.Usage) ⊎ (answer ≡ Some fault.OutOfMemory)

-- the depot is blamed only where its count rose
abbrev pub BlamesDepot : Option RunFault → ℕ → ℕ → Type 0
BlamesDepot answer before now = (store : Option ℕ) → answer ≡ Some (fault.DepotFault store) → before < now

-- at a STORE only where its count of directories that could not be made rose
abbrev pub BlamesStore : Option RunFault → ℕ → ℕ → Type 0
BlamesStore answer before now = (store : ℕ) → answer ≡ Some (fault.DepotFault (Some store)) → before < now

-- and at no STORE only where that count stands still
abbrev pub BlamesLookUp : Option RunFault → ℕ → ℕ → Type 0
BlamesLookUp answer before now = answer ≡ Some (fault.DepotFault None) → now ≡ before

-- the console is blamed only where its count rose
abbrev pub BlamesConsole : Option RunFault → ℕ → ℕ → Type 0
BlamesConsole answer before now = answer ≡ Some fault.ConsoleFault → before < now

-- and where it rose, the answer is not Done
abbrev pub ConsoleIsTold : Option RunFault → ℕ → ℕ → Type 0
ConsoleIsTold answer before now = before < now → ¬ (answer ≡ None)

-- ---- the hosts, and the waves that are shown

-- A task is given up where the last wave shows it: the wave has its number, that task has failed so often, which is at least the limit, and
-- some task has no winner.
pub record ShowsFailure (limit : ℕ) (waves : List (List TaskEnd)) (wave task failed : ℕ) : Type 0 where
  pub before : List (List TaskEnd)
  pub last : List TaskEnd
  pub are : waves ≡ before ++ last ∷ []
  pub number : length before ≡ wave
  pub shown : (end_of last task).failed ≡ failed
  pub enough : limit ≤ failed
  pub unwon : HasUnwon last

-- a task is reported failed only so
abbrev pub BlamesTask : ℕ → Option RunFault → List (List TaskEnd) → Type 0
BlamesTask limit answer waves = (wave task failed : ℕ) → answer ≡ Some (fault.TaskFailed wave task failed) → ShowsFailure limit waves wave task failed

-- where the run is done, each task of each wave has one winner, which is one of its attempts
abbrev pub CommitsEach : Option RunFault → List (List TaskEnd) → Type 0
CommitsEach answer waves = answer ≡ None → AllByRecursion (λ ends. IsWonWave (length ends) ends) waves

-- what hosts tell of their failures and their begins
abbrev pub crew_of : {H : Type 0} → (H → ℕ) → (H → Option (List Attempt)) → List H → CrewTells
crew_of faults begun hosts = crew_tells (map faults hosts) (map begun hosts)

-- What the hosts that work show of the waves that ended: they have the same inputs, they failed at least as often as the waves show, and
-- unless memory was wanting the begins that they tell are just the attempts of these waves. And what the waves show of the answer.
pub record HaveWorked {H : Type 0} (inputs : H → Option (List Input)) (faults : H → ℕ) (begun : H → Option (List Attempt)) (limit : ℕ) (old new : List H)
    (waves : List (List TaskEnd)) (answer : Option RunFault) : Type 0 where
  pub same : map inputs new ≡ map inputs old
  pub failures : sum_by faults old + sum_by failures_in waves ≤ sum_by faults new
  pub told : ¬ (answer ≡ Some fault.OutOfMemory) → WavesBegun 0 waves (crew_of faults begun old) (crew_of faults begun new)
  pub blamed : BlamesTask limit answer waves
  pub committed : CommitsEach answer waves

-- The first hosts work, as many as the command says; the others are as they were.
pub record CrewHasWorked {H : Type 0} (inputs : H → Option (List Input)) (faults : H → ℕ) (begun : H → Option (List Attempt)) (command : Command) (old new : List H)
    (waves : List (List TaskEnd)) (answer : Option RunFault) : Type 0 where
  pub worked : HaveWorked inputs faults begun command.attempts (take command.workers old) (take command.workers new) waves answer
  pub idle : drop command.workers new ≡ drop command.workers old

-- Of a demonstration, which has hosts of its own, these are as they were; no attempt at a task fails.
pub record HaveRested {H : Type 0} (old new : List H) (waves : List (List TaskEnd)) (answer : Option RunFault) : Type 0 where
  pub same : new ≡ old
  pub none_failed : sum_by failures_in waves ≡ 0
  pub committed : CommitsEach answer waves

-- the depot and the hosts that are handed in are as they were
abbrev pub Untouched : {D H : Type 0} → Line → D → D → List H → List H → Type 0
Untouched line old new hosts_old hosts_new = (command : Command) → IsDemo line command → (new ≡ old) × (hosts_new ≡ hosts_old)

-- hosts have failed at least as often as the waves show
abbrev pub ShowFailures : {H : Type 0} → (H → ℕ) → List (List TaskEnd) → List H → List H → Type 0
ShowFailures faults waves old new = sum_by faults old + sum_by failures_in waves ≤ sum_by faults new

-- Hosts work on a command that names a script; without a command none does, and no wave ends.
pub record HostsHaveWorked {H : Type 0} (inputs : H → Option (List Input)) (faults : H → ℕ) (begun : H → Option (List Attempt)) (line : Line) (old new : List H)
    (waves : List (List TaskEnd)) (answer : Option RunFault) : Type 0 where
  pub crew : (command : Command) → AreWords line command → CrewHasWorked inputs faults begun command old new waves answer
  pub demo : (command : Command) → IsDemo line command → HaveRested old new waves answer
  pub none : ¬ HasWords line → (new ≡ old) × (waves ≡ [])
