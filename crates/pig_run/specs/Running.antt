-- How the steps of a run speak of each other: what its waves give, what is stored of it, and how it ends.
use Rattle.std.specs.Prelude.{◌≡◌, ◌≤◌, ◌%◌, ◌^◌, ◌++◌, ℕ, true, false, List, [], ◌∷◌, length, map, Option, Some, None, Result, Ok, Err, IfOk, MatchResult, if◌then◌else◌}
use Rattle.std.specs.List.{AllByRecursion, sum_by}
use Rattle.std.specs.Option.{option_map}
use Rattle.pig_value.specs.declared.inputs.Input.{Input}
use Rattle.pig_value.specs.declared.outcomes.Kept.{Kept}
use Rattle.pig_outside.specs.Calls.{DepotCall}
use Rattle.pig_outside.specs.Shelf.{Shelf}
use Rattle.pig_board.specs.declared.end.TaskEnd.{TaskEnd}
use Rattle.pig_plan.specs.Asserts.{first_unmet}
use Rattle.pig_plan.specs.Laws.{AreOfBytes}
use Rattle.pig_plan.specs.Meaning.{IsKept}
use Rattle.pig_plan.specs.Plans.{Plan}
use Rattle.pig_plan.specs.Valid.{IsPlan}
use Rattle.pig_reach.specs.Reach.{lines_read, stores_of}
use Rattle.pig_reach.specs.declared.storing.Store.{Store}
use Rattle.pig_physical.specs.Stages.{Stages, heads, stores}
use Rattle.pig_work.specs.Working.{Tellings}
use Rattle.pig_driver.specs.Failing.{HaveWon, IsGivenUp}
use Rattle.pig_driver.specs.Going.{AllTell, AreWon}
use Rattle.pig_commit.specs.Committed.{LeftOpen, with_stored}
use Rattle.pig_commit.specs.declared.parts.StorePart.{StorePart}
use Rattle.pig_collect.specs.Collecting.{part_count}
use Rattle.pig_rewrites.specs.Alike.{RunsAlike}
use Rattle.pig_words.specs.declared.words.Command.{Command}
use Rattle.pig_run.specs.declared.outcome.Counts.{Counts}
use Rattle.pig_run.specs.declared.outcome.RunFault.{RunFault}
use Rattle.pig_run.specs.declared.outcome.RunFault.TheVariants as fault
use Rattle.pig_run.specs.declared.progress.Noted.{Noted}
use Rattle.pig_run.specs.declared.progress.Progress.{Progress}
use Rattle.pig_run.specs.Due.{Stage, making_of}
use Rattle.pig_run.specs.Ends.{Ends}
use Rattle.pig_run.specs.Outputs.{AreOutputsOf, IsRunOf, Left}
use Rattle.pig_run.specs.Reading.{Run, Runs, Verdict}
use Rattle.pig_run.specs.Steps.{IsCommitFault}
use Rattle.pig_run.specs.Texts.{done_text, due_text, assert_message, fault_text, line_count, said, said_behind, stored_line}
use Rattle.pig_run.specs.Told.{CountsAre, IsAsked, TellsOf}

-- ---- what may be asked of a command and of stages

-- the numbers of a command are in their ranges
pub record IsUsable (hosts : ℕ) (command : Command) : Type 0 where
  pub workers : (1 ≤ command.workers) × (command.workers ≤ hosts)
  pub reducers : (1 ≤ command.reducers) × (command.reducers ≤ 256)
  pub split : 1 ≤ command.split
  pub attempts : (1 ≤ command.attempts) × (command.attempts ≤ 16)

-- ---- what the waves give

-- What a run gives over inputs: what was kept is valid, each STORE's parts hold what it means, the lines were counted, and the first ASSERT
-- that is not met was found. All of it is that of a run of the stages.
pub record IsGiven (run : Run) (inputs : List Input) (kept : List Kept) (outs : List StorePart) (read shuffled : ℕ) (unmet : Option ℕ) : Type 0 where
  pub kept_valid : IsKept run.plan inputs kept
  pub outs_are : AreOutputsOf run.plan inputs kept (stores_of run.plan) outs
  pub read_is : read ≡ lines_read run.stages.plan inputs % 2 ^ 64
  pub unmet_is : unmet ≡ first_unmet run.plan inputs kept
  pub run_of : IsRunOf run.stages inputs kept (map (λ out. out.parts) outs) shuffled

-- so it is of the script's plan, whichever a run of the stages' plan does the same for, and the inputs that all hosts tell
abbrev pub GivesAll : Stages → ℕ → Tellings → List Kept → List StorePart → ℕ → ℕ → Option ℕ → Type 0
GivesAll s limit tellings kept outs read shuffled unmet =
    (plan : Plan) → RunsAlike plan s.plan → (inputs : List Input) → AllTell inputs tellings → AreOfBytes inputs
    → IsGiven (record { plan = plan; stages = s; limit = limit }) inputs kept outs read shuffled unmet

-- the STOREs' parts are as many as their tasks, in the directories of the STOREs
pub record AreLaid (s : Stages) (stores_are : List Store) (outs : List StorePart) : Type 0 where
  pub statements : map (λ out. out.statement) outs ≡ map (λ store. store.statement) stores_are
  pub dirs : map (λ out. out.dir) outs ≡ map (λ store. store.dir) stores_are
  pub counts : map (λ out. length out.parts) outs ≡ map (part_count s) (stores s.plan)

-- the ends of waves behind which no outputs come
abbrev pub WavesEnd : ℕ → Stages → List (List TaskEnd) → RunFault → Type 0
WavesEnd limit s ends (fault.TaskFailed wave task failed) = IsGivenUp limit s ends wave task failed
WavesEnd limit s ends fault.OutOfMemory = HaveWon s ends
WavesEnd limit s ends found = ⊥

-- all waves were won, and this is what they give to store; where there is nothing to store, nothing was kept
pub record HasFound (s : Stages) (limit : ℕ) (tellings : Tellings) (stores_are : List Store) (outs : List StorePart) (progress : Progress) : Type 0 where
  pub won : AreWon s progress.ends (length (heads s.plan))
  pub laid : AreLaid s stores_are outs
  pub gives : GivesAll s limit tellings progress.kept outs progress.read progress.shuffled None
  pub unkept : stores_are ≡ [] → progress.kept ≡ []
  pub stands : progress.stands ≡ false
  pub silent : progress.said.items ≡ []

-- what was kept is valid, and this ASSERT is the first that is not met
pub record IsUnmetOver (plan : Plan) (inputs : List Input) (kept : List Kept) (n : ℕ) : Type 0 where
  pub kept_valid : IsKept plan inputs kept
  pub first : first_unmet plan inputs kept ≡ Some n

abbrev pub UnmetAll : Stages → Tellings → List Kept → ℕ → Type 0
UnmetAll s tellings kept n =
    (plan : Plan) → RunsAlike plan s.plan → (inputs : List Input) → AllTell inputs tellings → AreOfBytes inputs → IsUnmetOver plan inputs kept n

-- Why nothing is stored: a task failed, an ASSERT of the script's plan is not met, or memory was wanting.
pub data EndsFinding (plan : Plan) (s : Stages) (limit : ℕ) (tellings : Tellings) (progress : Progress) : RunFault → Type 0 where
  lost : {wave task failed : ℕ} → IsGivenUp limit s progress.ends wave task failed → progress.stands ≡ false → progress.said.items ≡ []
      → EndsFinding plan s limit tellings progress (fault.TaskFailed wave task failed)
  not_met : {n : ℕ} → AreWon s progress.ends (length (heads s.plan)) → UnmetAll s tellings progress.kept n → progress.stands ≡ true
      → progress.said.items ≡ said (assert_message plan n) → EndsFinding plan s limit tellings progress (fault.AssertFailed n)
  no_room : HaveWon s progress.ends → progress.stands ≡ false → progress.said.items ≡ [] → EndsFinding plan s limit tellings progress fault.OutOfMemory

-- the ASSERT of a statement has failed, and its message is said; or memory was wanting for that, and nothing has changed
pub data HasFailedAssert (plan : Plan) (n : ℕ) (old new : Progress) : RunFault → Type 0 where
  asserted : new ≡ record old { said = new.said; stands = true } → new.said.items ≡ said (assert_message plan n) → HasFailedAssert plan n old new (fault.AssertFailed n)
  untold : new ≡ old → HasFailedAssert plan n old new fault.OutOfMemory

-- ---- storing

-- what is noted of an output, and its line
abbrev pub note_of : StorePart → Noted
note_of out = record { dir = out.dir; lines = line_count out }

abbrev pub noted_line : Noted → List ℕ
noted_line note = stored_line note.dir note.lines

-- the STOREs before one were stored, and that one was not
pub record IsBrokenAt (outs : List StorePart) (found : RunFault) (old new : Option Shelf) : Type 0 where
  pub before : List StorePart
  pub store : StorePart
  pub behind : List StorePart
  pub are : outs ≡ before ++ store ∷ behind
  pub named : IsCommitFault store.statement found
  pub left : LeftOpen store.dir (option_map (with_stored before) old) new

-- ---- the run

abbrev pub counts_in : Progress → Counts
counts_in progress = record { read = progress.read; shuffled = progress.shuffled; stored = sum_by (λ note. note.lines) progress.notes % 2 ^ 64 }

-- what was kept, where it stands
abbrev pub kept_in : Progress → List Kept
kept_in progress = if progress.stands then progress.kept else []

abbrev pub left_in : List StorePart → Progress → Option Shelf → Left
left_in outs progress shelf = record { outs = outs; kept = kept_in progress; waves = progress.ends; shelf = shelf }

abbrev pub found_in : {T : Type 0} → Result T RunFault → Option RunFault
found_in (Ok _) = None
found_in (Err found) = Some found

-- the text of an end
abbrev pub end_text : List ℕ → Result (List ℕ) RunFault → List ℕ
end_text said (Ok text) = text
end_text said (Err found) = fault_text said found

-- What the run of stages says of a shelf that is told.
pub record RunsEnd (run : Run) (shelf : Shelf) (tells : Type 0) (calls_old calls_new : Option (List DepotCall)) (new : Option Shelf) (progress : Progress)
    (result : Result (List ℕ) RunFault) : Type 0 where
  pub outs : List StorePart
  pub state : Ends tells shelf (left_in outs progress new) (Runs run) (found_in result)
  pub asked : IsAsked (making_of run) (found_in result) calls_old calls_new
  pub numbers : CountsAre tells (Runs run) shelf (left_in outs progress new) (counts_in progress) (found_in result)
  pub text : IfOk result (λ text. text ≡ done_text outs (counts_in progress))
  pub said_is : progress.said.items ≡ said_behind (Runs run) (found_in result)

-- What a call says of it, from a stage on.
pub record RunEnd (stage : Stage) (shelf : Shelf) (tells : Type 0) (calls_old calls_new : Option (List DepotCall)) (new : Option Shelf)
    (progress : Progress) (result : Result (List ℕ) RunFault) : Type 0 where
  pub verdict : Verdict
  pub calls : List DepotCall
  pub due : stage calls verdict
  pub outs : List StorePart
  pub state : Ends tells shelf (left_in outs progress new) verdict (found_in result)
  pub asked : IsAsked calls (found_in result) calls_old calls_new
  pub numbers : CountsAre tells verdict shelf (left_in outs progress new) (counts_in progress) (found_in result)
  pub text : IfOk result (λ text. text ≡ due_text verdict outs (counts_in progress))
  pub said_is : progress.said.items ≡ said_behind verdict (found_in result)

-- so it is of each end
abbrev pub RunsTold : Run → Shelf → Type 0 → Option (List DepotCall) → Option (List DepotCall) → Option Shelf → Progress → Result (List ℕ) RunFault → Type 0
RunsTold run shelf tells calls_old calls_new new progress result = MatchResult result (λ text. RunsEnd run shelf tells calls_old calls_new new progress (Ok text))
    (λ found. RunsEnd run shelf tells calls_old calls_new new progress (Err found))

abbrev pub RunTold : Stage → Shelf → Type 0 → Option (List DepotCall) → Option (List DepotCall) → Option Shelf → Progress → Result (List ℕ) RunFault → Type 0
RunTold stage shelf tells calls_old calls_new new progress result = MatchResult result (λ text. RunEnd stage shelf tells calls_old calls_new new progress (Ok text))
    (λ found. RunEnd stage shelf tells calls_old calls_new new progress (Err found))

-- ---- a run that begins

-- nothing was done yet
pub record IsFresh (progress : Progress) : Type 0 where
  pub notes : progress.notes ≡ []
  pub stands : progress.stands ≡ false
  pub read : progress.read ≡ 0
  pub shuffled : progress.shuffled ≡ 0
  pub ends : progress.ends ≡ []
  pub said : progress.said.items ≡ []

-- Hosts and a command's numbers are in their ranges, hosts tell no other inputs than the shelf, and nothing was done.
pub record MayBegin {D H : Type 0} (holds : D → Option Shelf) (inputs : H → Option (List Input)) (depot : D)
    (hosts : List H) (command : Command) (progress : Progress) : Type 0 where
  pub few : length hosts ≤ 256
  pub usable : IsUsable (length hosts) command
  pub tells : AllByRecursion (TellsOf (holds depot)) (map inputs hosts)
  pub fresh : IsFresh progress
