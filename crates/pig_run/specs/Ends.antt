-- How a call may end where something is due: what is answered, and what then stands; and how the console changes the answer.
use Rattle.std.specs.Prelude.{◌≡◌, ◌<◌, ◌++◌, ℕ, Bool, true, false, ◌&&◌, List, [], Option, Some, None, if◌then◌else◌}
use Rattle.std.specs.Option.{option_map}
use Rattle.pig_value.specs.declared.outcomes.Kept.{Kept}
use Rattle.pig_outside.specs.Shelf.{Shelf}
use Rattle.pig_outside.specs.Text.{LeftPrefix}
use Rattle.pig_run.specs.declared.outcome.Counts.{Counts}
use Rattle.pig_run.specs.declared.outcome.RunFault.{RunFault}
use Rattle.pig_run.specs.declared.outcome.RunFault.TheVariants as fault
use Rattle.pig_run.specs.Outputs.{IsBroken, IsLost, IsStopped, IsUnmet, IsUntouched, IsWhole, Left, no_counts}
use Rattle.pig_run.specs.Reading.{Prints, Refuses, Run, Runs, Verdict}
use Rattle.pig_run.specs.Refusals.{Refusal, Names}
use Rattle.pig_run.specs.Texts.{fault_text}

-- What is found before the console is asked: one rule for each cause. `tells` is that the hosts that work tell their inputs.
pub data Ends (tells : Type 0) (shelf : Shelf) (left : Left) : Verdict → Option RunFault → Type 0 where
  -- what is due is refused
  refused : {refusal : Refusal} {found : RunFault} → Names refusal found → IsUntouched shelf left → Ends tells shelf left (Refuses refusal) (Some found)
  -- what is due is a text, and nothing else
  shows : {text : List ℕ} → IsUntouched shelf left → Ends tells shelf left (Prints text) None
  -- the depot failed at a look-up
  lookup_failed : {verdict : Verdict} → IsUntouched shelf left → Ends tells shelf left verdict (Some (fault.DepotFault None))
  -- a task failed as often as the command sets
  task_failed : {run : Run} {wave task failed : ℕ} → IsLost run shelf wave task failed left → Ends tells shelf left (Runs run) (Some (fault.TaskFailed wave task failed))
  -- the first ASSERT that is not met is that of a statement
  assert_failed : {run : Run} {n : ℕ} → IsUnmet tells run shelf n left → Ends tells shelf left (Runs run) (Some (fault.AssertFailed n))
  -- the depot failed as it made the directory of a STORE
  store_failed : {run : Run} {n : ℕ} → IsStopped tells run shelf n left → Ends tells shelf left (Runs run) (Some (fault.DepotFault (Some n)))
  -- all is stored
  done : {run : Run} → IsWhole tells run shelf left → Ends tells shelf left (Runs run) None
  -- memory was wanting: before a wave, before anything was made, at a STORE, or when all was stored
  no_memory : {verdict : Verdict} → IsUntouched shelf left → Ends tells shelf left verdict (Some fault.OutOfMemory)
  no_memory_in : {run : Run} → IsBroken run shelf left → Ends tells shelf left (Runs run) (Some fault.OutOfMemory)
  no_memory_at : {run : Run} {n : ℕ} → IsStopped tells run shelf n left → Ends tells shelf left (Runs run) (Some fault.OutOfMemory)
  no_memory_behind : {run : Run} → IsWhole tells run shelf left → Ends tells shelf left (Runs run) (Some fault.OutOfMemory)

-- ---- the console

-- the console's text, where it is told, and its count of failures
pub record Console : Type 0 where
  pub text : Option (List ℕ)
  pub faults : ℕ

-- what a console tells, by what is told of it
abbrev pub console_seen : {C : Type 0} → (C → Option (List ℕ)) → (C → ℕ) → C → Console
console_seen text faults console = record { text = text console; faults = faults console }

-- the text has grown by these bytes
abbrev pub Printed : List ℕ → Console → Console → Type 0
Printed bytes old new = new.text ≡ option_map (λ text. text ++ bytes) old.text

-- the text has grown by a prefix of these bytes
abbrev pub PrintedPart : List ℕ → Console → Console → Type 0
PrintedPart bytes old new = LeftPrefix bytes old.text new.text

abbrev pub Fails : Console → Console → Type 0
Fails old new = old.faults < new.faults

-- the answer where the console failed at the text of what was found
abbrev pub unshown : Option RunFault → RunFault
unshown None = fault.ConsoleFault
unshown (Some found) = found

-- What is answered of what was found, by what became of its text: it was printed; the console failed; memory was wanting for it, or for
-- making it, and then the text of that answer stands, or as much of it as could be printed.
pub data Shown (text : List ℕ) (old new : Console) (found : Option RunFault) : Option RunFault → Type 0 where
  printed : ¬ Fails old new → Printed text old new → Shown text old new found found
  failed : Fails old new → PrintedPart text old new → Shown text old new found (Some (unshown found))
  cut_short : ¬ Fails old new → PrintedPart text old new → Shown text old new found (Some fault.OutOfMemory)
  no_text : ¬ Fails old new → Printed (fault_text [] fault.OutOfMemory) old new → Shown text old new found (Some fault.OutOfMemory)
  no_text_failed : Fails old new → PrintedPart (fault_text [] fault.OutOfMemory) old new → Shown text old new found (Some fault.OutOfMemory)
  no_text_cut : ¬ Fails old new → PrintedPart (fault_text [] fault.OutOfMemory) old new → Shown text old new found (Some fault.OutOfMemory)

-- the numbers of an answer: those of the run where it stored all and memory sufficed
abbrev pub counts_shown : Option RunFault → Counts → Counts
counts_shown None counts = counts
counts_shown (Some fault.ConsoleFault) counts = counts
counts_shown (Some found) counts = no_counts

abbrev pub is_unmet : Option RunFault → Bool
is_unmet (Some (fault.AssertFailed n)) = true
is_unmet found = false

abbrev pub is_wanting : Option RunFault → Bool
is_wanting (Some fault.OutOfMemory) = true
is_wanting answer = false

-- what was kept, as it is answered: nothing where memory was wanting for saying which ASSERT is not met
abbrev pub kept_shown : Option RunFault → Option RunFault → List Kept → List Kept
kept_shown found answer kept = if is_unmet found && is_wanting answer then [] else kept
