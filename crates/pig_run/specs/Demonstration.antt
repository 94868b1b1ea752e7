-- What `demo` does: the script of the demonstration is run on a shelf of its own, and what it stored is printed.
use Rattle.std.specs.Prelude.{◌≡◌, ◌⊎◌, ◌++◌, ℕ, List, [], Option, Some, None}
use Rattle.std.specs.Str.Parse.{digits_value}
use Rattle.pig_outside.specs.Calls.{DepotCall}
use Rattle.pig_outside.specs.Shelf.{Shelf, parts_of}
use Rattle.pig_demo.specs.Scene.{demo_shelf, script_path, top_path}
use Rattle.pig_commit.specs.declared.parts.StorePart.{StorePart}
use Rattle.pig_collect.specs.Collecting.{joined}
use Rattle.pig_words.specs.declared.words.Command.{Command}
use Rattle.pig_words.specs.declared.words.Verb.TheVariants as verbs
use Rattle.pig_run.specs.declared.outcome.Counts.{Counts}
use Rattle.pig_run.specs.declared.outcome.Outcome.{Outcome}
use Rattle.pig_run.specs.declared.outcome.RunFault.{RunFault}
use Rattle.pig_run.specs.declared.outcome.RunFault.TheVariants as fault
use Rattle.pig_run.specs.declared.outcome.TooLarge.TheVariants as large
use Rattle.pig_run.specs.Due.{CommandDue, IsDemo, Line, ScriptDue, Stage}
use Rattle.pig_run.specs.Ends.{Console, Ends, Shown, counts_shown}
use Rattle.pig_run.specs.Reading.{Verdict}
use Rattle.pig_run.specs.Texts.{done_line, fault_text}
use Rattle.pig_run.specs.Told.{CountsAre, IsRight}

-- the number of visits that a command asks for
abbrev pub visits_of : Command → ℕ
visits_of command = digits_value 10 command.operand

-- its script and its input, and no directory
abbrev pub shelf_of : Command → Shelf
shelf_of command = demo_shelf (visits_of command)

-- the run of that script, with the numbers of the command and no parameters
abbrev pub script_run : Command → Command
script_run command = record command { verb = verbs.Run; operand = script_path; params = [] }

-- what is due is what is due of that run on that shelf
abbrev pub DemoDue : Command → Stage
DemoDue command = ScriptDue [] script_path (shelf_of command) (CommandDue (script_run command) (shelf_of command))

-- What is answered of how the run ended. The script has no ASSERT and is found to be a plan, and its input and output are as they should be, so
-- that nothing but too many tasks is refused; another refusal would be answered as want of memory.
abbrev pub demo_answer : Option RunFault → Option RunFault
demo_answer None = None
demo_answer (Some (fault.TooLarge large.Tasks)) = Some (fault.TooLarge large.Tasks)
demo_answer (Some found) = Some fault.OutOfMemory

-- so these are all answers
abbrev pub IsDemoAnswer : Option RunFault → Type 0
IsDemoAnswer None = Unit {0}
IsDemoAnswer (Some (fault.TooLarge large.Tasks)) = Unit {0}
IsDemoAnswer (Some fault.ConsoleFault) = Unit {0}
IsDemoAnswer (Some fault.OutOfMemory) = Unit {0}
IsDemoAnswer (Some found) = ⊥

-- what is printed of an answer: what stands in the directory of the script's STORE, and the numbers
abbrev pub demo_text : Shelf → Counts → Option RunFault → List ℕ
demo_text shelf counts None = joined (parts_of top_path shelf) ++ done_line counts
demo_text shelf counts (Some found) = fault_text [] found

-- What is due of the demonstration; how its run ended, what it stored and counted, and the shelf as it then stands; and what was shown and
-- answered of it. No device of its own fails, so that what is due is what came, unless memory was wanting.
pub record Demoed (command : Command) (old new : Console) (outcome : Outcome) : Type 0 where
  pub verdict : Verdict
  pub calls : List DepotCall
  pub due : DemoDue command calls verdict
  pub ended : Option RunFault
  pub outs : List StorePart
  pub counts : Counts
  pub shelf : Shelf
  pub state : Ends (Unit {0}) (shelf_of command) (record { outs = outs; kept = outcome.kept; waves = outcome.waves; shelf = Some shelf }) verdict ended
  pub right : IsRight verdict ended ⊎ (ended ≡ Some fault.OutOfMemory)
  pub numbers : CountsAre (Unit {0}) verdict (shelf_of command) (record { outs = outs; kept = outcome.kept; waves = outcome.waves; shelf = Some shelf }) counts ended
  pub text : Shown (demo_text shelf counts (demo_answer ended)) old new (demo_answer ended) outcome.fault
  pub only : IsDemoAnswer outcome.fault
  pub counted : outcome.counts ≡ counts_shown outcome.fault counts

-- so it is of each command of a demonstration that the words are
abbrev pub DemoedOf : Line → Console → Console → Outcome → Type 0
DemoedOf line old new outcome = (command : Command) → IsDemo line command → Demoed command old new outcome
