-- What the steps before a run find, and how each may end.
use Rattle.std.specs.Prelude.{◌≡◌, ◌≢◌, ◌≤◌, ◌<◌, ◌⊎◌, ◌++◌, ℕ, List, Option, Some, None, Result, IfErr, IfOk, MatchResult, IsErrOf}
use Rattle.pig_outside.specs.Calls.{DepotCall}
use Rattle.pig_outside.specs.Shelf.{Shelf}
use Rattle.pig_outside.specs.declared.faults.OutsideError.{OutsideError}
use Rattle.pig_outside.specs.declared.faults.OutsideError.TheVariants as outside
use Rattle.pig_driver.specs.declared.running.StagesFault.{StagesFault}
use Rattle.pig_driver.specs.declared.running.StagesFault.TheVariants as stages
use Rattle.pig_commit.specs.declared.parts.CommitFault.{CommitFault}
use Rattle.pig_commit.specs.declared.parts.CommitFault.TheVariants as commit
use Rattle.pig_run.specs.declared.outcome.RunFault.{RunFault}
use Rattle.pig_run.specs.declared.outcome.RunFault.TheVariants as fault
use Rattle.pig_run.specs.Due.{HasWords, Line, Stage}
use Rattle.pig_run.specs.Reading.{Faulty, Finding, IsOfScript, Refuses, Typed, Verdict}
use Rattle.pig_run.specs.declared.reading.Checked.{Checked}
use Rattle.pig_run.specs.Refusals.{Refusal, Names}
use Rattle.pig_run.specs.Told.{Asked, IsPrefix}
use Rattle.pig_plan.specs.Plans.{plan_of}

-- the fault that an error of a device is
abbrev pub depot_fault_of : OutsideError → Option ℕ → RunFault
depot_fault_of outside.Failed store = fault.DepotFault store
depot_fault_of outside.OutOfMemory store = fault.OutOfMemory

-- the fault that one of a commit is
abbrev pub commit_fault_of : CommitFault → RunFault
commit_fault_of (commit.Store statement) = fault.DepotFault (Some statement)
commit_fault_of commit.OutOfMemory = fault.OutOfMemory

-- the fault that one of the waves is
abbrev pub stages_fault_of : StagesFault → RunFault
stages_fault_of (stages.TaskFailed wave task failed) = fault.TaskFailed wave task failed
stages_fault_of stages.OutOfMemory = fault.OutOfMemory

-- ---- stages

-- A stage is the next one, with these calls before it.
pub record HandsOn (stage next : Stage) (made : List DepotCall) : Type 0 where
  pub on : (asked : List DepotCall) (verdict : Verdict) → next asked verdict → stage (made ++ asked) verdict
  pub back : (asked : List DepotCall) (verdict : Verdict) → stage asked verdict → (behind : List DepotCall) × (asked ≡ made ++ behind) × next behind verdict

-- the fault is what is due
pub record IsRefusedBy (stage : Stage) (made : List DepotCall) (found : RunFault) : Type 0 where
  pub refusal : Refusal
  pub due : stage made (Refuses refusal)
  pub names : Names refusal found

-- the depot failed at a look-up, or memory was wanting
abbrev pub IsLookFault : RunFault → Type 0
IsLookFault found = (found ≡ fault.DepotFault None) ⊎ (found ≡ fault.OutOfMemory)

-- so it was, and what was asked begins what is due, whatever that is
pub record IsBrokenIn (stage : Stage) (made : List DepotCall) (found : RunFault) : Type 0 where
  pub free : IsLookFault found
  pub first : (asked : List DepotCall) (verdict : Verdict) → stage asked verdict → IsPrefix made asked

abbrev pub EndsIn : Stage → List DepotCall → RunFault → Type 0
EndsIn stage made found = IsRefusedBy stage made found ⊎ IsBrokenIn stage made found

-- a stage is passed, and the next one is due
pub record Passes (stage next : Stage) (old new : Option (List DepotCall)) : Type 0 where
  pub made : List DepotCall
  pub asked : Asked made old new
  pub hands : HandsOn stage next made

-- a call ends in a stage
pub record StopsIn (stage : Stage) (old new : Option (List DepotCall)) (found : RunFault) : Type 0 where
  pub made : List DepotCall
  pub asked : Asked made old new
  pub ends : EndsIn stage made found

-- a step goes from a stage to the next one, or ends in it
abbrev pub Step : {T : Type 0} → Stage → (T → Stage) → Option (List DepotCall) → Option (List DepotCall) → Result T RunFault → Type 0
Step stage next old new result = MatchResult result (λ x. Passes stage (next x) old new) (StopsIn stage old new)

-- reading a script finds this, or memory was wanting
abbrev pub TellsPlan : (Finding → Type 0) → Result Checked RunFault → Type 0
TellsPlan P result = MatchResult result (λ checked. P (Typed checked.statements (plan_of checked.plan)))
    (λ found. ((refusal : Refusal) × P (Faulty refusal) × Names refusal found) ⊎ (found ≡ fault.OutOfMemory))

-- ---- counts

-- The depot's count has not fallen, and has risen where the depot is blamed.
pub record DepotCause {T : Type 0} (before now : ℕ) (result : Result T RunFault) : Type 0 where
  pub later : before ≤ now
  pub failed : (store : Option ℕ) → IsErrOf result (fault.DepotFault store) → before < now

-- The count of the depot's failures at making a directory has not fallen, has risen where a STORE is blamed, and stands still where the
-- depot is blamed without one.
pub record StoreBlame {T : Type 0} (before now : ℕ) (result : Result T RunFault) : Type 0 where
  pub later : before ≤ now
  pub store : (number : ℕ) → IsErrOf result (fault.DepotFault (Some number)) → before < now
  pub lookup : IsErrOf result (fault.DepotFault None) → now ≡ before

-- ---- which faults there are

-- a step behind the words and before the run ends by a refusal, the depot's look-ups, or memory
abbrev pub IsPlanFault : RunFault → Type 0
IsPlanFault fault.Usage = ⊥
IsPlanFault (fault.TaskFailed wave task failed) = ⊥
IsPlanFault (fault.AssertFailed n) = ⊥
IsPlanFault fault.ConsoleFault = ⊥
IsPlanFault (fault.DepotFault (Some store)) = ⊥
IsPlanFault found = Unit {0}

-- reading a script ends by a refusal of it, or memory
abbrev pub IsReadFault : RunFault → Type 0
IsReadFault (fault.Param offset) = Unit {0}
IsReadFault (fault.Lex offset) = Unit {0}
IsReadFault (fault.Syntax n) = Unit {0}
IsReadFault (fault.Check n kind) = Unit {0}
IsReadFault (fault.TooLarge which) = Unit {0}
IsReadFault fault.OutOfMemory = Unit {0}
IsReadFault found = ⊥

-- A script is read: this is found of it, its plan is one of a script, and no fault but one of reading ends it.
pub record ReadsPlan (P : Finding → Type 0) (result : Result Checked RunFault) : Type 0 where
  pub told : TellsPlan P result
  pub of_script : IfOk result (λ c. IsOfScript (plan_of c.plan))
  pub fault : IfErr result IsReadFault

-- making the directory of the STORE of this number ends by the depot or memory
abbrev pub IsCommitFault : ℕ → RunFault → Type 0
IsCommitFault number found = (found ≡ fault.DepotFault (Some number)) ⊎ (found ≡ fault.OutOfMemory)

-- another fault than that of wrong words
abbrev pub IsNotUsage : RunFault → Type 0
IsNotUsage fault.Usage = ⊥
IsNotUsage found = Unit {0}

-- a fault behind the words and before the console
abbrev pub IsLaterFault : RunFault → Type 0
IsLaterFault found = IsNotUsage found × (found ≢ fault.ConsoleFault)

-- the fault is that of wrong words only where the words are no command, and another only where they are one or memory was wanting
abbrev pub SaysWords : Line → RunFault → Type 0
SaysWords line found = ((found ≡ fault.Usage) × (¬ HasWords line)) ⊎ (IsNotUsage found × (HasWords line ⊎ (found ≡ fault.OutOfMemory)))

-- ---- what a call leaves of the depot

-- what is said of the calls that are told before it and behind it
abbrev pub Asking : Type 1
Asking = Option (List DepotCall) → Option (List DepotCall) → Type 0

-- A call that only looks: it ends before the run, changes at most the count of failures, and asks what is said.
pub record OnlyLooks {D T : Type 0} (holds : D → Option Shelf) (calls : D → Option (List DepotCall))
    (faults store_faults : D → ℕ) (old new : D) (result : Result T RunFault) (asks : Asking) : Type 0 where
  pub fault : IfErr result IsPlanFault
  pub shelf : holds new ≡ holds old
  pub cause : DepotCause (faults old) (faults new) result
  pub stores : store_faults new ≡ store_faults old
  pub asked : asks (calls old) (calls new)

-- A call that may make directories: it ends behind the words, blames the depot as counts say, and asks what is said.
pub record LeavesDepot {D T : Type 0} (calls : D → Option (List DepotCall)) (faults store_faults : D → ℕ)
    (old new : D) (result : Result T RunFault) (asks : Asking) : Type 0 where
  pub fault : IfErr result IsLaterFault
  pub depot : DepotCause (faults old) (faults new) result
  pub stores : StoreBlame (store_faults old) (store_faults new) result
  pub asked : asks (calls old) (calls new)
