-- What may be refused before anything runs, which fault answers it, and what causes each fault.
use Rattle.std.specs.Prelude.{◌≡◌, ℕ, List, Option, Some, None}
use Rattle.pig_syntax.specs.declared.trees.Stmt.{Stmt}
use Rattle.pig_typing.specs.declared.faults.CheckKind.{CheckKind}
use Rattle.pig_check.specs.Scripts.{IsFirstUntyped}
use Rattle.pig_run.specs.declared.outcome.RunFault.{RunFault}
use Rattle.pig_run.specs.declared.outcome.RunFault.TheVariants as fault
use Rattle.pig_run.specs.declared.outcome.TooLarge.{TooLarge}

-- What is refused: the words, the script, an input or an output.
pub data Refusal : Type 0 where
  no_command no_script : Refusal
  -- of the script as it was read, at this offset a value is missing
  no_value : ℕ → Refusal
  no_token : ℕ → Refusal
  off_grammar : ℕ → Refusal
  -- of these statements, the one of this number has no typing
  untyped : List Stmt → ℕ → Refusal
  no_input : List ℕ → Refusal
  output_there : List ℕ → Refusal
  too_large : TooLarge → Refusal

-- The fault that answers a refusal. Of a statement without a typing it may name any kind whose condition holds there.
abbrev pub Names : Refusal → RunFault → Type 0
Names no_command found = found ≡ fault.Usage
Names no_script found = found ≡ fault.NoScript
Names (no_value offset) found = found ≡ fault.Param offset
Names (no_token offset) found = found ≡ fault.Lex offset
Names (off_grammar n) found = found ≡ fault.Syntax n
Names (untyped ss n) found = (kind : CheckKind) × IsFirstUntyped ss n kind × (found ≡ fault.Check n kind)
Names (no_input path) found = found ≡ fault.NoInput path
Names (output_there dir) found = found ≡ fault.OutputExists dir
Names (too_large which) found = found ≡ fault.TooLarge which

-- What causes a fault: a refusal, the depot (at a STORE, or at a look-up), attempts that hosts lost, an ASSERT, memory or the console.
pub data Cause : Type 0 where
  by_refusal by_tasks by_assert by_memory by_console : Cause
  by_depot : Option ℕ → Cause

abbrev pub cause_of : RunFault → Cause
cause_of fault.Usage = by_refusal
cause_of fault.NoScript = by_refusal
cause_of (fault.Param offset) = by_refusal
cause_of (fault.Lex offset) = by_refusal
cause_of (fault.Syntax n) = by_refusal
cause_of (fault.Check n kind) = by_refusal
cause_of (fault.NoInput path) = by_refusal
cause_of (fault.OutputExists dir) = by_refusal
cause_of (fault.TooLarge which) = by_refusal
cause_of (fault.DepotFault store) = by_depot store
cause_of (fault.TaskFailed wave task failed) = by_tasks
cause_of (fault.AssertFailed n) = by_assert
cause_of fault.OutOfMemory = by_memory
cause_of fault.ConsoleFault = by_console

-- the exit status of an answer
abbrev pub status_of : Option RunFault → ℕ
status_of None = 0
status_of (Some fault.Usage) = 1
status_of (Some fault.NoScript) = 2
status_of (Some (fault.Param offset)) = 3
status_of (Some (fault.Lex offset)) = 3
status_of (Some (fault.Syntax n)) = 3
status_of (Some (fault.Check n kind)) = 3
status_of (Some (fault.NoInput path)) = 4
status_of (Some (fault.OutputExists dir)) = 5
status_of (Some (fault.DepotFault store)) = 6
status_of (Some (fault.TaskFailed wave task failed)) = 7
status_of (Some (fault.AssertFailed n)) = 8
status_of (Some fault.OutOfMemory) = 9
status_of (Some fault.ConsoleFault) = 10
status_of (Some (fault.TooLarge which)) = 11
