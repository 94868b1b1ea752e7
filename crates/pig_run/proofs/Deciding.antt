-- Something is due of words that are no demonstration.
use Rattle.std.proofs.Common.{◌≡◌, ◌^◌, ◌++◌, ℕ, Bool, List, [], ◌∷◌, map, Option, Some, None, refl, ◌∙◌, ap, subst, inl, inr, ◌⊎◌}
use Rattle.std.specs.List.{find, sum_by}
use Rattle.std.proofs.lemmas.Bool.{cases_lt}
use Rattle.pig_outside.specs.Calls.{DepotCall}
use Rattle.pig_outside.specs.Shelf.{Shelf, has_dir, script_of}
use Rattle.pig_outside.specs.declared.failing.Method.{Method}
use Rattle.pig_outside.specs.declared.failing.Method.TheVariants as method
use Rattle.pig_params.specs.Substitution.{Named}
use Rattle.pig_plan.specs.Plans.{Plan}
use Rattle.pig_reach.specs.Reach.{dirs_of, live_paths}
use Rattle.pig_words.specs.CommandWords.{IsCommand}
use Rattle.pig_words.specs.declared.words.Command.{Command}
use Rattle.pig_words.specs.declared.words.Verb.{Verb}
use Rattle.pig_words.specs.declared.words.Verb.TheVariants as verbs
use Rattle.pig_words.proofs.Commands.{one_command}
use Rattle.pig_words.proofs.Decisions.{command_decided}
use Rattle.pig_run.specs.declared.outcome.TooLarge.TheVariants as large
use Rattle.pig_run.specs.Due.{AreWords, CommandDue, HasWords, InputsDue, IsDemo, IsDue, IsNoDemo, Line, Looks, NamesScript, OutputsDue, PlanStage, ScriptDue, SizeDue, Stage, TasksDue, call, check_due, explain_wants, given_by, is_missing, no_words, passed, run_due, script_found, script_missing, script_refused, size_of, small, stopped, through, too_big, unreached, with_words}
use Rattle.pig_run.specs.Reading.{Faulty, Finding, IsFound, Prints, Refuses, Typed, Verdict, Wants}
use Rattle.pig_run.specs.Texts.{ok_text}
use Rattle.pig_run.specs.Refusals.{Refusal, no_command, no_input, no_script, output_there, too_large}
use Rattle.pig_run.proofs.Readings.{PlanLaws, some_found}

pub just : {A : Type 0} {x y : A} → Some x ≡ Some y → x ≡ y
just e = cc

pub not_none : {A B : Type 0} {x : A} → None ≡ Some x → B
not_none e = absurd (cc)

abbrev pub IsSome : Stage → Type 0
IsSome stage = (a : List DepotCall) × (v : Verdict) × stage a v

-- ---- words

verb_of_script : (v : Verb) → NamesScript v ⊎ (v ≡ verbs.Demo)
verb_of_script verbs.Run = inl tt
verb_of_script verbs.Explain = inl tt
verb_of_script verbs.Check = inl tt
verb_of_script verbs.Demo = inr refl

-- a verb that is none of a demonstration names a script
pub names_script : (v : Verb) → (v ≡ verbs.Demo → ⊥) → NamesScript v
names_script v other = elim (verb_of_script v) [
  | inl names ↦ names
  | inr demo ↦ absurd (other demo)
]

pub same_command : (line : Line) (c d : Command) → IsCommand line.hosts line.words c → IsCommand line.hosts line.words d → c ≡ d
same_command line c d a b = one_command line.hosts line.words c d a b

-- words name a script, are those of a demonstration, or are no command
pub data WordsAre (line : Line) : Type 0 where
  of_script : {command : Command} → AreWords line command → WordsAre line
  of_demo : {command : Command} → IsDemo line command → WordsAre line
  of_none : ¬ HasWords line → WordsAre line

pub words_decided : (line : Line) → WordsAre line
words_decided line = elim (command_decided line.hosts line.words) [
  | inr none ↦ of_none (λ h. none h.0 h.1)
  | inl command ↦ elim (verb_of_script command.0.verb) [
    | inl names ↦ of_script (record { is = command.1; scripted = names })
    | inr demo ↦ of_demo (record { is = command.1; demo = demo })
  ]
]

-- a command that names a script is no demonstration
pub no_demo : (line : Line) (command : Command) → AreWords line command → IsNoDemo line
no_demo line command are other demo = subst NamesScript (ap (λ c. c.verb) (same_command line command other are.is demo.is) ∙ demo.demo) are.scripted

-- ---- stages

module _ (is_so : List ℕ → Bool) (refusal : List ℕ → Refusal) (m : Method) (paths : List (List ℕ)) (next : Stage) where
  some_looks : IsSome next → IsSome (Looks is_so refusal m paths next)
  some_looks some = by_find (find is_so paths) refl
    where
      by_find : (o : Option (List ℕ)) → find is_so paths ≡ o → IsSome (Looks is_so refusal m paths next)
      by_find None e = (map (call m) paths ++ some.0, some.1, passed e some.2)
      by_find (Some path) e = (map (call m) (through is_so paths), Refuses (refusal path), stopped e)

module _ (command : Command) (s : Shelf) (plan : Plan) where
  -- memory may be wanting for the plan that is cut
  pub some_tasks : IsSome (TasksDue command s plan)
  some_tasks = ([], Wants, unreached)

  some_outputs : IsSome (OutputsDue command s plan)
  some_outputs = some_looks (λ dir. has_dir dir s) output_there method.Exists (dirs_of plan) (TasksDue command s plan) some_tasks

  some_size : IsSome (SizeDue command s plan)
  some_size = elim (cases_lt (2 ^ 26) (sum_by (size_of s) (live_paths plan))) [
    | inl big ↦ ([], Refuses (too_large large.Input), too_big big)
    | inr less ↦ (let rest = some_outputs in (rest.0, rest.1, small less rest.2))
  ]

  pub some_inputs : IsSome (InputsDue command s plan)
  some_inputs = some_looks (is_missing s) no_input method.Pieces (live_paths plan) (SizeDue command s plan) some_size

pub some_command_due : (command : Command) → NamesScript command.verb → (s : Shelf) (n : ℕ) (plan : Plan) → IsSome (CommandDue command s n plan)
some_command_due command names s n plan = by_verb command.verb refl names
  where
    by_verb : (v : Verb) → command.verb ≡ v → NamesScript v → IsSome (CommandDue command s n plan)
    by_verb verbs.Run e b = let rest = some_inputs command s plan in (rest.0, rest.1, run_due e rest.2)
    by_verb verbs.Check e b = ([], Prints (ok_text n), check_due e)
    by_verb verbs.Explain e b = ([], Wants, explain_wants e)
    by_verb verbs.Demo e b = absurd b

module _ (laws : PlanLaws) (given : List Named) (path : List ℕ) (s : Shelf) (next : PlanStage) where
  pub some_script : ((n : ℕ) (plan : Plan) → IsSome (next n plan)) → IsSome (ScriptDue given path s next)
  some_script some = by_script (script_of path s) refl
    where
      by_finding : (script : List ℕ) (v : Finding) → script_of path s ≡ Some script → IsFound given script v → IsSome (ScriptDue given path s next)
      by_finding script (Faulty r) h is = (call method.Script path ∷ [], Refuses r, script_refused h is)
      by_finding script (Typed n plan) h is = let rest = some n plan in (call method.Script path ∷ rest.0, rest.1, script_found h is rest.2)

      by_script : (o : Option (List ℕ)) → script_of path s ≡ o → IsSome (ScriptDue given path s next)
      by_script None e = (call method.Script path ∷ [], Refuses no_script, script_missing e)
      by_script (Some script) e = let found = some_found laws given script in by_finding script found.0 e found.1

module _ (laws : PlanLaws) (line : Line) (s : Shelf) where
  -- what is due of words that are no demonstration
  pub some_due : IsNoDemo line → IsSome (IsDue line s)
  some_due other = by_words (words_decided line)
    where
      by_words : WordsAre line → IsSome (IsDue line s)
      by_words (of_script {command = c} are) =
          let rest = some_script laws (given_by c) c.operand s (CommandDue c s) (some_command_due c are.scripted s) in
          (rest.0, rest.1, with_words are rest.2)
      by_words (of_demo {command = c} is) = absurd (other c is)
      by_words (of_none none) = ([], Refuses no_command, no_words none)
