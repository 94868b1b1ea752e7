-- What the top call says of a shelf that is told.
use Rattle.std.specs.Prelude.{◌≡◌, ◌⊎◌, ◌<◌, ◌≤◌, ◌+◌, ◌++◌, ℕ, List, length, map, take, Option, Some, None}
use Rattle.std.specs.List.{AllByRecursion, sum_by}
use Rattle.std.specs.Option.{ForSome, option_map}
use Rattle.pig_value.specs.declared.inputs.Input.{Input}
use Rattle.pig_value.specs.declared.outcomes.Kept.{Kept}
use Rattle.pig_outside.specs.Calls.{DepotCall}
use Rattle.pig_outside.specs.Shelf.{Shelf}
use Rattle.pig_plan.specs.Laws.{AreOfBytes}
use Rattle.pig_words.specs.CommandWords.{IsCommand}
use Rattle.pig_words.specs.declared.words.Command.{Command}
use Rattle.pig_run.specs.declared.outcome.Counts.{Counts}
use Rattle.pig_run.specs.declared.outcome.Outcome.{Outcome}
use Rattle.pig_run.specs.declared.outcome.RunFault.{RunFault}
use Rattle.pig_run.specs.declared.outcome.RunFault.TheVariants as fault
use Rattle.pig_run.specs.Due.{IsDue, IsNoDemo, Line}
use Rattle.pig_run.specs.Ends.{Console, Ends, Fails, Shown, console_seen, counts_shown, kept_shown}
use Rattle.pig_commit.specs.declared.parts.StorePart.{StorePart}
use Rattle.pig_run.specs.Outputs.{AreCounts, Left, no_counts}
use Rattle.pig_run.specs.Reading.{Verdict, Prints, Refuses, Runs, Wants}
use Rattle.pig_run.specs.Refusals.{Names, by_assert, by_depot, by_memory, by_tasks, cause_of}
use Rattle.pig_run.specs.Texts.{answer_text}

-- What the devices tell at a moment: the depot's shelf, its calls and its count, the sum of the hosts' counts, and the console.
pub record Seen : Type 0 where
  pub shelf : Option Shelf
  pub calls : Option (List DepotCall)
  pub depot_faults : ℕ
  pub host_faults : ℕ
  pub console : Console

-- the depot or the console counted a failure, or the hosts together so many
abbrev pub HaveFailed : ℕ → Seen → Seen → Type 0
HaveFailed many old new = (old.depot_faults < new.depot_faults) ⊎ (old.host_faults + many ≤ new.host_faults) ⊎ Fails old.console new.console

-- the depot is blamed only where its count has risen
abbrev pub IsCaused : Option RunFault → Seen → Seen → Type 0
IsCaused None old new = Unit {0}
IsCaused (Some found) old new = (store : Option ℕ) → cause_of found ≡ by_depot store → old.depot_faults < new.depot_faults

-- ---- the depot's calls

-- these calls were made behind those before, in this order, and no other
abbrev pub Asked : List DepotCall → Option (List DepotCall) → Option (List DepotCall) → Type 0
Asked calls old new = new ≡ option_map (λ before. before ++ calls) old

abbrev pub IsPrefix : List DepotCall → List DepotCall → Type 0
IsPrefix made all = (behind : List DepotCall) × (all ≡ made ++ behind)

-- a fault that ends a call before all is asked
abbrev pub EndsEarly : Option RunFault → Type 0
EndsEarly None = ⊥
EndsEarly (Some found) = (cause_of found ≡ by_tasks) ⊎ (cause_of found ≡ by_assert) ⊎ (cause_of found ≡ by_memory)
    ⊎ ((store : Option ℕ) × (cause_of found ≡ by_depot store))

-- what is due was asked, all of it unless a device, an ASSERT or memory ended the call
pub record IsAsked (due : List DepotCall) (found : Option RunFault) (old new : Option (List DepotCall)) : Type 0 where
  pub made : List DepotCall
  pub asked : Asked made old new
  pub first : IsPrefix made due
  pub all : ¬ EndsEarly found → made ≡ due

-- ---- the answer

-- a run is done, or an ASSERT failed
pub data Finishes : Option RunFault → Type 0 where
  all_done : Finishes None
  unmet : {n : ℕ} → Finishes (Some (fault.AssertFailed n))

-- what is due is answered
abbrev pub IsRight : Verdict → Option RunFault → Type 0
IsRight (Refuses refusal) None = ⊥
IsRight (Refuses refusal) (Some found) = Names refusal found
IsRight (Prints text) answer = answer ≡ None
IsRight (Runs run) answer = Finishes answer
IsRight Wants answer = ⊥

-- how many failures of hosts may end it otherwise
abbrev pub most_lost : Verdict → ℕ
most_lost (Refuses refusal) = 1
most_lost (Prints text) = 1
most_lost (Runs run) = run.limit
most_lost Wants = 1

-- where the depot and the console did not fail, the hosts failed less often than the limit, and memory sufficed, what is due is answered
abbrev pub Completes : Verdict → Seen → Seen → Option RunFault → Type 0
Completes verdict old new answer = ¬ HaveFailed (most_lost verdict) old new → IsRight verdict answer ⊎ (answer ≡ Some fault.OutOfMemory)

-- the numbers are right where all is stored, and those of no run where a text is printed
abbrev pub CountsAre : Type 0 → Verdict → Shelf → Left → Counts → Option RunFault → Type 0
CountsAre tells (Refuses refusal) shelf left counts found = Unit {0}
CountsAre tells (Prints text) shelf left counts found = found ≡ None → counts ≡ no_counts
CountsAre tells (Runs run) shelf left counts found = found ≡ None → AreCounts tells run shelf.inputs left.kept left.outs counts
CountsAre tells Wants shelf left counts found = Unit {0}

-- Of these words and this shelf: what is due and what is asked for it; what was found, what was stored, kept and counted; what stands; and
-- what was shown and answered of it.
pub record Told (line : Line) (shelf : Shelf) (tells : Type 0) (old new : Seen) (outcome : Outcome) : Type 0 where
  pub verdict : Verdict
  pub calls : List DepotCall
  pub due : IsDue line shelf calls verdict
  pub found : Option RunFault
  pub outs : List StorePart
  pub kept : List Kept
  pub counts : Counts
  pub state : Ends tells shelf (record { outs = outs; kept = kept; waves = outcome.waves; shelf = new.shelf }) verdict found
  pub cause : IsCaused found old new
  pub asked : IsAsked calls found old.calls new.calls
  pub numbers : CountsAre tells verdict shelf (record { outs = outs; kept = kept; waves = outcome.waves; shelf = new.shelf }) counts found
  pub text : Shown (answer_text verdict outs counts found) old.console new.console found outcome.fault
  pub counted : outcome.counts ≡ counts_shown outcome.fault counts
  pub stands : outcome.kept ≡ kept_shown found outcome.fault kept
  pub complete : Completes verdict old new outcome.fault

-- so it is where the depot tells its shelf, and the words are none of a demonstration
abbrev pub ToldOf : Line → Type 0 → Seen → Seen → Outcome → Type 0
ToldOf line tells old new outcome = ForSome old.shelf (λ shelf. IsNoDemo line → Told line shelf tells old new outcome)

-- a host that tells its inputs tells those of the depot's shelf
abbrev pub TellsOf : Option Shelf → Option (List Input) → Type 0
TellsOf shelf inputs = ForSome inputs (λ told. option_map (λ s. s.inputs) shelf ≡ Some told)

-- it tells its inputs, which are of bytes
abbrev pub TellsInputs : Option (List Input) → Type 0
TellsInputs inputs = (told : List Input) × (inputs ≡ Some told) × AreOfBytes told

-- what devices tell, by what is told of each
abbrev pub seen : {D H C : Type 0} → (D → Option Shelf) → (D → Option (List DepotCall)) → (D → ℕ) → (H → ℕ) → (C → Option (List ℕ)) → (C → ℕ) → D → List H → C → Seen
seen shelf calls faults host_faults text console_faults depot hosts console = record {
  shelf = shelf depot;
  calls = calls depot;
  depot_faults = faults depot;
  host_faults = sum_by host_faults hosts;
  console = console_seen text console_faults console;
}

-- the words of a program with these hosts
abbrev pub line_of : {H : Type 0} → List H → List (List ℕ) → Line
line_of hosts words = record { hosts = length hosts; words = words }

-- it tells its inputs
abbrev pub IsTold : Option (List Input) → Type 0
IsTold inputs = (told : List Input) × (inputs ≡ Some told)

-- each of the first hosts tells its inputs, and these are of bytes, as many as the command has workers
abbrev pub CrewTells : {X : Type 0} → (X → Option (List Input)) → Command → List X → Type 0
CrewTells inputs command hosts = AllByRecursion TellsInputs (map inputs (take command.workers hosts))

-- each host that works tells its inputs
abbrev pub AllTell : {X : Type 0} → (X → Option (List Input)) → Line → List X → Type 0
AllTell inputs line hosts = (command : Command) → IsCommand line.hosts line.words command → AllByRecursion IsTold (map inputs (take command.workers hosts))
