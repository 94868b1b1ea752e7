-- Words that are no demonstration and a shelf decide one thing, stage by stage.
use Rattle.std.proofs.Common.{◌≡◌, ◌<◌, ◌^◌, ◌++◌, ℕ, Bool, List, [], ◌∷◌, map, Option, Some, None, refl, sym, ◌∙◌, ap, subst, arith, inl, inr, if◌then◌else◌}
use Rattle.std.specs.List.{AllByRecursion, find, sum_by}
use Rattle.std.proofs.lemmas.Bool.{cases_lt}
use Rattle.std.proofs.lemmas.List.{append_assoc, append-nil}
use Rattle.pig_value.proofs.list_laws.Listing.{each-append, each-map, each_of_all}
use Rattle.pig_outside.specs.Calls.{DepotCall}
use Rattle.pig_outside.specs.Shelf.{Shelf, has_dir, script_of}
use Rattle.pig_outside.specs.declared.failing.Method.{Method}
use Rattle.pig_outside.specs.declared.failing.Method.TheVariants as method
use Rattle.pig_plan.specs.Plans.{Plan}
use Rattle.pig_reach.specs.Reach.{dirs_of, live_paths}
use Rattle.pig_explain.specs.Explained.{explain_text}
use Rattle.pig_words.specs.declared.words.Command.{Command}
use Rattle.pig_words.specs.declared.words.Verb.{Verb}
use Rattle.pig_words.specs.declared.words.Verb.TheVariants as verbs
use Rattle.pig_run.specs.declared.outcome.TooLarge.TheVariants as large
use Rattle.pig_run.specs.Decided.{IsDecided, IsDueBy, IsDueOf, IsLook, MakesNothing, RestsOn, made_for, run_by, to_do, to_refuse}
use Rattle.pig_run.specs.Due.{AreWords, CommandDue, HasWords, InputsDue, IsDue, IsNoDemo, Line, Looks, NamesScript, OutputsDue, RunDue, ScriptDue, SizeDue, Stage, TasksDue, call, check_due, explain_due, explain_wants, few, given_by, is_missing, no_words, passed, run_due, run_of, runs, script_found, script_missing, script_refused, size_of, small, stopped, through, too_big, too_many, unreached, with_words}
use Rattle.pig_run.specs.Reading.{Faulty, Finding, IsFound, Prints, Refuses, Run, Runs, Typed, Verdict, Wants}
use Rattle.pig_run.specs.Refusals.{Refusal, no_command, no_input, no_script, output_there, too_large}
use Rattle.pig_run.specs.Texts.{ok_text}
use Rattle.pig_run.proofs.Deciding.{WordsAre, just, not_none, of_demo, of_none, of_script, words_decided}
use Rattle.pig_run.proofs.LookUps.{looks_behind}
use Rattle.pig_run.proofs.Readings.{PlanLaws, one_found, some_found}
use Rattle.pig_run.proofs.Scripts.{plan_behind}
use Rattle.pig_run.proofs.Sizes.{size_back}
use Rattle.pig_run.proofs.Wording.{run_behind, script_behind}

-- calls that make nothing
abbrev AreLooks : List DepotCall → Type 0
AreLooks calls = AllByRecursion MakesNothing calls

are_looks : (m : Method) → IsLook m → (paths : List (List ℕ)) → AreLooks (map (call m) paths)
are_looks m look paths = each-map MakesNothing (call m) paths (each_of_all (λ path. IsLook m) (λ path. look) paths)

-- a stage in which this is refused and nothing else, with these calls
abbrev JustRefuses : Stage → List DepotCall → Refusal → Type 0
JustRefuses stage calls r = (a : List DepotCall) (v : Verdict) → stage a v → (v ≡ Refuses r) × (a ≡ calls)

-- a stage in which the next one is due behind these calls and nothing else
abbrev JustBehind : Stage → List DepotCall → Stage → Type 0
JustBehind stage made next = (a : List DepotCall) (v : Verdict) → stage a v → (more : List DepotCall) × (a ≡ made ++ more) × next more v

module _ (line : Line) (s : Shelf) where
  refused : (stage : Stage) (calls : List DepotCall) (r : Refusal) → AreLooks calls → JustRefuses stage calls r → IsDecided line s stage
  refused stage calls r looks only = record {
    decision = to_refuse r;
    looked = calls;
    looks = looks;
    each = λ a v due.
        let h = only a v due in
        (h.0, h.1 ∙ sym (append-nil calls) ∙ ap (λ w. calls ++ made_for w) (sym h.0));
  }

  behind : (stage next : Stage) (made : List DepotCall) → AreLooks made → JustBehind stage made next → IsDecided line s next → IsDecided line s stage
  behind stage next made looks back is = record {
    decision = is.decision;
    looked = made ++ is.looked;
    looks = each-append MakesNothing made is.looked looks is.looks;
    each = λ a v due.
        let more = back a v due in
        let h = is.each more.0 v more.2 in
        (h.0, more.1 ∙ ap (λ xs. made ++ xs) h.1 ∙ sym (append_assoc made is.looked (made_for v)));
  }

  -- a stage that is the next one
  itself : (stage next : Stage) → ((a : List DepotCall) (v : Verdict) → stage a v → next a v) → IsDecided line s next → IsDecided line s stage
  itself stage next back is = behind stage next [] tt (λ a v due. (a, refl, back a v due)) is

  module _ (is_so : List ℕ → Bool) (refusal : List ℕ → Refusal) (m : Method) (look : IsLook m) (paths : List (List ℕ)) (next : Stage) where
    only_stopped : (path : List ℕ) → find is_so paths ≡ Some path → JustRefuses (Looks is_so refusal m paths next) (map (call m) (through is_so paths)) (refusal path)
    only_stopped path so _ _ (stopped {path = q} h) = (ap (λ x. Refuses (refusal x)) (just (sym h ∙ so)), refl)
    only_stopped path so _ v (passed none due) = not_none (sym none ∙ so)

    looks_decided : IsDecided line s next → IsDecided line s (Looks is_so refusal m paths next)
    looks_decided is = by_find (find is_so paths) refl
      where
        by_find : (o : Option (List ℕ)) → find is_so paths ≡ o → IsDecided line s (Looks is_so refusal m paths next)
        by_find None none = behind (Looks is_so refusal m paths next) next (map (call m) paths) (are_looks m look paths) (looks_behind is_so refusal m paths next none) is
        by_find (Some path) so =
            refused (Looks is_so refusal m paths next) (map (call m) (through is_so paths)) (refusal path) (are_looks m look (through is_so paths)) (only_stopped path so)

  module _ (command : Command) (are : AreWords line command) (script : List ℕ) (there : script_of command.operand s ≡ Some script) (n : ℕ) (plan : Plan)
      (found : IsFound (given_by command) script (Typed n plan)) where
    -- it is done with that plan
    abbrev IsDone : Verdict → Type 0
    IsDone v = IsDueOf line s (to_do are there found) v

    -- what the command's verb says
    by_verb : (verb : Verb) → command.verb ≡ verb → (v : Verdict) → IsDueBy verb command s n plan v → IsDone v
    by_verb verb is v h = subst (λ x. IsDueBy x command s n plan v) (sym is) h

    -- with no call before
    at_once : (stage : Stage) → ((a : List DepotCall) (v : Verdict) → stage a v → IsDone v × (a ≡ made_for v)) → IsDecided line s stage
    at_once stage each = record { decision = to_do are there found; looked = []; looks = tt; each = each }

    module _ (is : command.verb ≡ verbs.Run) where
      of_run : (v : Verdict) → RestsOn plan (run_by command s plan) v → IsDone v
      of_run v h = by_verb verbs.Run is v h

      run_is : (run : Run) (a : List DepotCall) (v : Verdict) → RunDue run a v → (v ≡ Runs run) × (a ≡ made_for v)
      run_is run _ _ runs = (refl, refl)

      tasks_are : (a : List DepotCall) (v : Verdict) → TasksDue command s plan a v → IsDone v × (a ≡ made_for v)
      tasks_are _ _ (too_many {cut} reached h) =
          (of_run (Refuses (too_large large.Tasks)) (inl (cut, reached, sym (ap (λ b. if b then Refuses (too_large large.Tasks) else Runs (run_of command s plan cut)) h))), refl)
      tasks_are a v (few {cut} reached h due) =
          let run = run_is (run_of command s plan cut) a v due in
          (of_run v (inl (cut, reached, run.0 ∙ sym (ap (λ b. if b then Refuses (too_large large.Tasks) else Runs (run_of command s plan cut)) h))), run.1)
      tasks_are _ _ unreached = (of_run Wants (inr refl), refl)

      outputs_decided : IsDecided line s (OutputsDue command s plan)
      outputs_decided = looks_decided (λ dir. has_dir dir s) output_there method.Exists tt (dirs_of plan) (TasksDue command s plan) (at_once (TasksDue command s plan) tasks_are)

      only_big : 2 ^ 26 < sum_by (size_of s) (live_paths plan) → JustRefuses (SizeDue command s plan) [] (too_large large.Input)
      only_big big _ _ (too_big h) = (refl, refl)
      only_big big a v (small less due) = absurd (omega (arith, big, less))

      size_decided : IsDecided line s (SizeDue command s plan)
      size_decided = elim (cases_lt (2 ^ 26) (sum_by (size_of s) (live_paths plan))) [
        | inl big ↦ refused (SizeDue command s plan) [] (too_large large.Input) tt (only_big big)
        | inr less ↦ itself (SizeDue command s plan) (OutputsDue command s plan) (size_back command plan s less) outputs_decided
      ]

      inputs_decided : IsDecided line s (InputsDue command s plan)
      inputs_decided = looks_decided (is_missing s) no_input method.Pieces tt (live_paths plan) (SizeDue command s plan) size_decided

    explained : command.verb ≡ verbs.Explain → (a : List DepotCall) (v : Verdict) → CommandDue command s n plan a v → IsDone v × (a ≡ made_for v)
    explained is a v (run_due h due) = absurd (let e = sym is ∙ h in cc)
    explained is _ _ (explain_due {cut} h reached) = (by_verb verbs.Explain is (Prints (explain_text plan cut)) (inl (cut, reached, refl)), refl)
    explained is _ _ (explain_wants h) = (by_verb verbs.Explain is Wants (inr refl), refl)
    explained is _ _ (check_due h) = absurd (let e = sym is ∙ h in cc)

    checked : command.verb ≡ verbs.Check → (a : List DepotCall) (v : Verdict) → CommandDue command s n plan a v → IsDone v × (a ≡ made_for v)
    checked is a v (run_due h due) = absurd (let e = sym is ∙ h in cc)
    checked is _ _ (explain_due h reached) = absurd (let e = sym is ∙ h in cc)
    checked is _ _ (explain_wants h) = absurd (let e = sym is ∙ h in cc)
    checked is _ _ (check_due h) = (by_verb verbs.Check is (Prints (ok_text n)) refl, refl)

    plan_decided : IsDecided line s (CommandDue command s n plan)
    plan_decided = of_verb command.verb refl are.scripted
      where
        of_verb : (verb : Verb) → command.verb ≡ verb → NamesScript verb → IsDecided line s (CommandDue command s n plan)
        of_verb verbs.Run is names = itself (CommandDue command s n plan) (InputsDue command s plan) (run_behind command s n plan is) (inputs_decided is)
        of_verb verbs.Explain is names = at_once (CommandDue command s n plan) (explained is)
        of_verb verbs.Check is names = at_once (CommandDue command s n plan) (checked is)
        of_verb verbs.Demo is names = absurd names

  module _ (laws : PlanLaws) (command : Command) (are : AreWords line command) where
    abbrev FromScript : Stage
    FromScript = ScriptDue (given_by command) command.operand s (CommandDue command s)

    abbrev asked_script : List DepotCall
    asked_script = call method.Script command.operand ∷ []

    only_missing : script_of command.operand s ≡ None → JustRefuses FromScript asked_script no_script
    only_missing none _ _ (script_missing h) = (refl, refl)
    only_missing none _ _ (script_refused h is) = not_none (sym none ∙ h)
    only_missing none _ v (script_found h is due) = not_none (sym none ∙ h)

    module _ (script : List ℕ) (there : script_of command.operand s ≡ Some script) where
      found_here : (t : List ℕ) (w : Finding) → script_of command.operand s ≡ Some t → IsFound (given_by command) t w → IsFound (given_by command) script w
      found_here t w h is = subst (λ x. IsFound (given_by command) x w) (just (sym h ∙ there)) is

      only_refused : (r : Refusal) → IsFound (given_by command) script (Faulty r) → JustRefuses FromScript asked_script r
      only_refused r is _ _ (script_missing h) = not_none (sym h ∙ there)
      only_refused r is _ _ (script_refused {script = t} {refusal = q} h js) =
          let e = one_found laws (given_by command) script (Faulty q) (Faulty r) (found_here t (Faulty q) h js) is in
          let same : q ≡ r = cc in
          (ap Refuses same, refl)
      only_refused r is _ v (script_found {script = t} {n = m} {plan = p} h js due) =
          absurd (let e = one_found laws (given_by command) script (Typed m p) (Faulty r) (found_here t (Typed m p) h js) is in cc)

      by_finding : (w : Finding) → IsFound (given_by command) script w → IsDecided line s FromScript
      by_finding (Faulty r) is = refused FromScript asked_script r (tt, tt) (only_refused r is)
      by_finding (Typed n plan) is = behind FromScript (CommandDue command s n plan) asked_script (tt, tt)
          (plan_behind laws (given_by command) command.operand s (CommandDue command s) script there n plan is) (plan_decided command are script there n plan is)

    script_decided : IsDecided line s FromScript
    script_decided = by_script (script_of command.operand s) refl
      where
        by_script : (o : Option (List ℕ)) → script_of command.operand s ≡ o → IsDecided line s FromScript
        by_script None none = refused FromScript asked_script no_script (tt, tt) (only_missing none)
        by_script (Some script) there = let found = some_found laws (given_by command) script in by_finding script there found.0 found.1

  only_wordless : ¬ HasWords line → JustRefuses (IsDue line s) [] no_command
  only_wordless none _ _ (no_words h) = (refl, refl)
  only_wordless none a v (with_words {command = c} words due) = absurd (none (c, words.is))

pub one_decision : (laws : PlanLaws) (line : Line) (s : Shelf) → IsNoDemo line → IsDecided line s (IsDue line s)
one_decision laws line s other = by_words (words_decided line)
  where
    by_words : WordsAre line → IsDecided line s (IsDue line s)
    by_words (of_script {command = c} are) =
        itself line s (IsDue line s) (ScriptDue (given_by c) c.operand s (CommandDue c s)) (script_behind line s c are) (script_decided line s laws c are)
    by_words (of_demo {command = c} is) = absurd (other c is)
    by_words (of_none none) = refused line s (IsDue line s) [] no_command tt (only_wordless line s none)
