-- How the steps of a `demo` speak of it before the console is asked.
use Rattle.std.specs.Prelude.{◌≡◌, ◌⊎◌, ℕ, List, [], Option, Some, None, unwrap_or, Result, IfOk}
use Rattle.std.specs.Option.{option_map}
use Rattle.pig_outside.specs.Calls.{DepotCall}
use Rattle.pig_outside.specs.declared.contents.DirState.{DirState}
use Rattle.pig_outside.specs.Shelf.{Shelf}
use Rattle.pig_commit.specs.declared.parts.StorePart.{StorePart}
use Rattle.pig_words.specs.declared.words.Command.{Command}
use Rattle.pig_run.specs.declared.outcome.RunFault.{RunFault}
use Rattle.pig_run.specs.declared.outcome.RunFault.TheVariants as fault
use Rattle.pig_run.specs.declared.outcome.TooLarge.TheVariants as large
use Rattle.pig_run.specs.declared.progress.Progress.{Progress}
use Rattle.pig_run.specs.Demonstration.{DemoDue, demo_answer, demo_text, shelf_of}
use Rattle.pig_run.specs.Ends.{Ends}
use Rattle.pig_run.specs.Reading.{Verdict}
use Rattle.pig_run.specs.Running.{counts_in, found_in, left_in}
use Rattle.pig_run.specs.Told.{CountsAre, IsRight}

-- the parts of a directory, if it is there
abbrev pub parts_found : Option DirState → List (List ℕ)
parts_found state = unwrap_or (option_map (λ s. s.parts) state) []

-- what it ends with otherwise
abbrev pub IsDemoFault : RunFault → Type 0
IsDemoFault found = (found ≡ fault.OutOfMemory) ⊎ (found ≡ fault.TooLarge large.Tasks)

-- what is due of the demonstration, how its run ended, and what is printed and answered of it
pub record DemoEnd (command : Command) (progress : Progress) (result : Result (List ℕ) RunFault) : Type 0 where
  pub verdict : Verdict
  pub calls : List DepotCall
  pub due : DemoDue command calls verdict
  pub ended : Option RunFault
  pub outs : List StorePart
  pub shelf : Shelf
  pub state : Ends (Unit {0}) (shelf_of command) (left_in outs progress (Some shelf)) verdict ended
  pub right : IsRight verdict ended ⊎ (ended ≡ Some fault.OutOfMemory)
  pub numbers : CountsAre (Unit {0}) verdict (shelf_of command) (left_in outs progress (Some shelf)) (counts_in progress) ended
  pub answer : found_in result ≡ demo_answer ended
  pub text : IfOk result (λ text. text ≡ demo_text shelf (counts_in progress) None)
  pub silent : progress.said.items ≡ []
