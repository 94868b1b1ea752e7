-- The words of a command line as the first stage, and the command as that behind its script.
use Rattle.std.proofs.Common.{◌≡◌, ◌⊎◌, ◌∙◌, ℕ, List, Option, Result, Ok, Err, IfErr, MatchResult, refl, sym, subst, inl, inr}
use Rattle.pig_outside.specs.Calls.{DepotCall}
use Rattle.pig_outside.specs.Shelf.{Shelf}
use Rattle.pig_plan.specs.Plans.{Plan}
use Rattle.pig_physical.specs.Stages.{Stages}
use Rattle.pig_work.specs.Working.{Tellings}
use Rattle.pig_words.specs.declared.words.Command.{Command}
use Rattle.pig_words.specs.declared.words.Verb.TheVariants as verbs
use Rattle.pig_run.specs.declared.outcome.RunFault.{RunFault}
use Rattle.pig_run.specs.declared.outcome.RunFault.TheVariants as fault
use Rattle.pig_run.specs.declared.outcome.TooLarge.TheVariants as large
use Rattle.pig_run.specs.Due.{AreWords, CommandDue, HasWords, InputsDue, IsDue, Line, ScriptDue, check_due, explain_due, explain_wants, given_by, no_words, run_due, with_words}
use Rattle.pig_run.specs.declared.progress.Progress.{Progress}
use Rattle.pig_run.specs.Reading.{Verdict}
use Rattle.pig_run.specs.Running.{EndsFinding, lost, no_room, not_met}
use Rattle.pig_run.specs.Refusals.{no_command}
use Rattle.pig_run.specs.Steps.{IsLaterFault, IsCommitFault, IsPlanFault, Passes, SaysWords, StopsIn}
use Rattle.pig_run.proofs.Deciding.{same_command}
use Rattle.pig_run.proofs.Stages.{passes_itself, refuses, wants}

module _ (line : Line) (s : Shelf) (command : Command) (are : AreWords line command) where
  pub script_behind : (asked : List DepotCall) (v : Verdict) → IsDue line s asked v → ScriptDue (given_by command) command.operand s (CommandDue command s) asked v
  script_behind _ _ (no_words none) = absurd (none (command, are.is))
  script_behind asked v (with_words {command = c} words due) =
      subst (λ x. ScriptDue (given_by x) x.operand s (CommandDue x s) asked v) (same_command line c command words.is are.is) due

  pub words_pass : (now : Option (List DepotCall)) → Passes (IsDue line s) (ScriptDue (given_by command) command.operand s (CommandDue command s)) now now
  words_pass now = passes_itself (IsDue line s) (ScriptDue (given_by command) command.operand s (CommandDue command s)) now now refl (λ asked v due. with_words are due) script_behind

pub words_stop : (line : Line) (s : Shelf) (now : Option (List DepotCall)) (f : RunFault) → ((f ≡ fault.Usage) × (¬ HasWords line)) ⊎ (f ≡ fault.OutOfMemory) → StopsIn (IsDue line s) now now f
words_stop line s now f (inl h) = refuses (IsDue line s) now now refl f no_command h.0 (no_words h.1)
words_stop line s now f (inr h) = wants (IsDue line s) now now refl f h

-- a command that runs its script
module _ (command : Command) (s : Shelf) (n : ℕ) (plan : Plan) (is : command.verb ≡ verbs.Run) where
  pub run_behind : (asked : List DepotCall) (v : Verdict) → CommandDue command s n plan asked v → InputsDue command s plan asked v
  run_behind asked v (run_due h due) = due
  run_behind _ _ (explain_due h reached) = absurd (let e = sym is ∙ h in cc)
  run_behind _ _ (explain_wants h) = absurd (let e = sym is ∙ h in cc)
  run_behind _ _ (check_due h) = absurd (let e = sym is ∙ h in cc)

  pub run_passes : (now : Option (List DepotCall)) → Passes (CommandDue command s n plan) (InputsDue command s plan) now now
  run_passes now = passes_itself (CommandDue command s n plan) (InputsDue command s plan) now now refl (λ asked v due. run_due is due) run_behind

-- ---- which faults there are behind the words

pub later_plan : (f : RunFault) → IsPlanFault f → IsLaterFault f
later_plan fault.Usage h = absurd h
later_plan fault.NoScript h = (tt, λ e. cc)
later_plan (fault.Param offset) h = (tt, λ e. cc)
later_plan (fault.Lex offset) h = (tt, λ e. cc)
later_plan (fault.Syntax n) h = (tt, λ e. cc)
later_plan (fault.Check n kind) h = (tt, λ e. cc)
later_plan (fault.NoInput path) h = (tt, λ e. cc)
later_plan (fault.OutputExists dir) h = (tt, λ e. cc)
later_plan (fault.DepotFault store) h = (tt, λ e. cc)
later_plan (fault.TaskFailed wave task failed) h = absurd h
later_plan (fault.AssertFailed n) h = absurd h
later_plan fault.OutOfMemory h = (tt, λ e. cc)
later_plan fault.ConsoleFault h = absurd h
later_plan (fault.TooLarge which) h = (tt, λ e. cc)

pub later_cut : {T : Type 0} (f : RunFault) → ((f ≡ fault.TooLarge large.Tasks) × T) ⊎ (f ≡ fault.OutOfMemory) → IsLaterFault f
later_cut f (inl is) = subst IsLaterFault (sym is.0) (tt, λ e. cc)
later_cut f (inr is) = subst IsLaterFault (sym is) (tt, λ e. cc)

pub later_commit : (n : ℕ) (f : RunFault) → IsCommitFault n f → IsLaterFault f
later_commit n f (inl is) = subst IsLaterFault (sym is) (tt, λ e. cc)
later_commit n f (inr is) = subst IsLaterFault (sym is) (tt, λ e. cc)

pub later_words : (line : Line) (result : Result (List ℕ) RunFault) → HasWords line → IfErr result IsLaterFault → MatchResult result (λ _. HasWords line) (SaysWords line)
later_words line (Ok text) has h = has
later_words line (Err f) has h = inr (h.0, inl has)

pub later_ends : {plan : Plan} {s : Stages} {limit : ℕ} {tellings : Tellings} {progress : Progress} (f : RunFault) → EndsFinding plan s limit tellings progress f → IsLaterFault f
later_ends _ (lost given_up quiet silent) = (tt, λ e. cc)
later_ends _ (not_met won unmet stands said) = (tt, λ e. cc)
later_ends _ (no_room won quiet silent) = (tt, λ e. cc)
