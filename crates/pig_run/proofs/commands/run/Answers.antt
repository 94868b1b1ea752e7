use Rattle.std.proofs.Common.{rules, refl, ◌≡◌, ◌≤◌, ◌⊎◌, [], Ok, Err, IfOk, IfErr, MatchResult, subst, sym, arith}
use Rattle.std.proofs.lemmas.Result.{IfErr-weaker, MatchResult-weaker}
use Rattle.pig_words.specs.CommandWords.{IsCommand}
use Rattle.pig_words.specs.declared.words.Verb.TheVariants as verbs
use Rattle.pig_run.specs.declared.outcome.RunFault.TheVariants as fault
use Rattle.pig_run.specs.OwnRun.{DemoEnd}
use Rattle.pig_run.specs.Due.{AreWords, CommandDue, HasWords, IsDue, ScriptDue, given_by}
use Rattle.pig_run.specs.Looking.{line_given}
use Rattle.pig_run.specs.Orderly.{AsksScript}
use Rattle.pig_run.specs.Running.{IsUsable, RunEnd, found_in}
use Rattle.pig_run.specs.Steps.{IsLaterFault}
use Rattle.pig_run.specs.Told.{AllTell, CrewTells}
use Rattle.pig_run.proofs.Crews.{hosts_idle, hosts_rested, hosts_worked, told_are_bytes, usable, words_fault}
use Rattle.pig_run.proofs.Deciding.{names_script, no_demo, same_command, some_due}
use Rattle.pig_run.proofs.DemoSteps.{demo_blame, demo_cause, demo_unread, fewer_hosts, later_fault}
use Rattle.pig_run.proofs.Ending.{end_behind, told_stopped}
use Rattle.pig_run.proofs.Ordering.{fresh_kept, orderly_behind, orderly_idle}
use Rattle.pig_run.proofs.Readings.{PlanLaws}
use Rattle.pig_run.proofs.Stages.{asked_nothing}
use Rattle.pig_run.proofs.Telling.{end_told}
use Rattle.pig_run.proofs.Wording.{later_words, words_pass, words_stop}
use Rattle.pig_run.proofs.commands.run.Goals as goal

-- ---- what the steps ask

pub demonstrate-requires-clause-count : goal.demonstrate-requires-clause-count
demonstrate-requires-clause-count g c κs within =
    let is : IsCommand c.args.line.now.hosts c.args.line.now.words.now c.in_ok-command.command = search rules in
    let demo : c.in_ok-command.command.verb ≡ verbs.Demo = search rules in
    is.bare.makes.count demo

pub demonstrate-requires-clause-usable : goal.demonstrate-requires-clause-usable
demonstrate-requires-clause-usable g c κs within =
    let is : IsCommand c.args.line.now.hosts c.args.line.now.words.now c.in_ok-command.command = search rules in
    fewer_hosts c.args.line.now.hosts c.in_ok-command.command c.args.line.now.few (usable c.args.line.now.hosts c.args.line.now.words.now c.in_ok-command.command c.args.line.now.some is)

pub run_script-requires-clause-begins : goal.run_script-requires-clause-begins
run_script-requires-clause-begins g c κs within =
    let is : IsCommand c.args.line.now.hosts c.args.line.now.words.now c.in_ok-command.command = search rules in
    record {
      few = subst (λ n. n ≤ 256) (sym c.requires.hosts) c.args.line.now.few;
      usable = subst (λ n. IsUsable n c.in_ok-command.command) (sym c.requires.hosts) (usable c.args.line.now.hosts c.args.line.now.words.now c.in_ok-command.command c.args.line.now.some is);
      tells = c.requires.tells;
      fresh = c.requires.fresh;
    }

pub run_script-requires-clause-scripted : goal.run_script-requires-clause-scripted
run_script-requires-clause-scripted g c κs within = names_script c.in_ok-command.command.verb (search rules)

-- ---- the words were not read

pub returns-in_err-command-clause-told : goal.returns-in_err-command-clause-told
returns-in_err-command-clause-told g c s told other =
    let law = c.a_script_has_one_plan.ensures in
    let laws : PlanLaws = record { one = law.one; some = law.some; never_both = law.never_both; one_statement = law.one_statement } in
    let line = line_given c.args.line.now in
    let tells = AllTell g.H.Host.inputs line c.args.hosts.now in
    let now = g.D.Depot.calls c.args.depot.now in
    let shelf = g.D.Depot.shelf c.args.depot.now in
    let stopped : MatchResult c.from_residual.result
    (λ text. RunEnd (IsDue (line_given c.args.line.now) s) s (AllTell g.H.Host.inputs (line_given c.args.line.now) c.args.hosts.now) (g.D.Depot.calls c.args.depot.now) (g.D.Depot.calls c.args.depot.now) (g.D.Depot.shelf c.args.depot.now)
    c.args.progress.now (Ok text))
    (λ f. ((f ≡ fault.Usage) × (¬ HasWords (line_given c.args.line.now))) ⊎ (f ≡ fault.OutOfMemory)) = search rules in
    MatchResult-weaker c.from_residual.result stopped (λ text h. h)
    (λ f h. told_stopped (IsDue line s) (some_due laws line s other) s tells now now shelf c.args.progress.now told c.requires.fresh f (words_stop line s now f h))

pub returns-in_err-command-clause-demo : goal.returns-in_err-command-clause-demo
returns-in_err-command-clause-demo g c command is =
    let law = c.a_script_has_one_plan.ensures in
    let laws : PlanLaws = record { one = law.one; some = law.some; never_both = law.never_both; one_statement = law.one_statement } in
    let stopped : MatchResult c.from_residual.result (λ _. ⊥) (λ f. ((f ≡ fault.Usage) × (¬ HasWords (line_given c.args.line.now))) ⊎ (f ≡ fault.OutOfMemory)) = search rules in
    demo_unread laws (line_given c.args.line.now) command is c.args.progress.now c.requires.fresh c.from_residual.result stopped

pub returns-in_err-command-clause-worked : goal.returns-in_err-command-clause-worked
returns-in_err-command-clause-worked g c =
    let stops : IfOk c.from_residual.result (λ _. ⊥) = search rules in
    let is : IfErr c.from_residual.result (λ f. ((f ≡ fault.Usage) × (¬ HasWords (line_given c.args.line.now))) ⊎ (f ≡ fault.OutOfMemory)) = search rules in
    hosts_idle g.H.Host.inputs g.H.Host.faults g.H.Host.begun (line_given c.args.line.now) c.args.hosts.now c.args.progress.now.ends (found_in c.from_residual.result) c.requires.fresh.ends
    (words_fault _ c.from_residual.result stops is)

pub returns-in_err-command-clause-asked : goal.returns-in_err-command-clause-asked
returns-in_err-command-clause-asked g c =
    let now = g.D.Depot.calls c.args.depot.now in
    let none : AsksScript (g.D.Depot.calls c.args.depot.now) (g.D.Depot.calls c.args.depot.now) = record { scripts = []; one = omega arith; asked = asked_nothing now now refl } in
    orderly_behind (found_in c.from_residual.result) _ now now now none (orderly_idle c.from_residual.result _ (fresh_kept c.args.progress.now c.requires.fresh) now now refl)

-- ---- a demonstration

pub returns-in-Demo-clause-told : goal.returns-in-Demo-clause-told
returns-in-Demo-clause-told g c s told other =
    let is : IsCommand c.args.line.now.hosts c.args.line.now.words.now c.in_ok-command.command = search rules in
    let demo : c.in_ok-command.command.verb ≡ verbs.Demo = search rules in
    absurd (other c.in_ok-command.command (record { is = is; demo = demo }))

pub returns-in-Demo-clause-demo : goal.returns-in-Demo-clause-demo
returns-in-Demo-clause-demo g c command is =
    let own : IsCommand c.args.line.now.hosts c.args.line.now.words.now c.in_ok-command.command = search rules in
    subst (λ d. DemoEnd d c.demonstrate.new.progress c.demonstrate.result) (same_command (line_given c.args.line.now) c.in_ok-command.command command own is.is) c.demonstrate.ensures.told

pub returns-in-Demo-clause-fault : goal.returns-in-Demo-clause-fault
returns-in-Demo-clause-fault g c = IfErr-weaker c.demonstrate.result _ _ (λ f h. (later_fault f h).1) c.demonstrate.ensures.fault

pub returns-in-Demo-clause-words : goal.returns-in-Demo-clause-words
returns-in-Demo-clause-words g c =
    let is : IsCommand c.args.line.now.hosts c.args.line.now.words.now c.in_ok-command.command = search rules in
    let later : IfErr c.demonstrate.result IsLaterFault = IfErr-weaker c.demonstrate.result _ _ (λ f h. later_fault f h) c.demonstrate.ensures.fault in
    later_words (line_given c.args.line.now) c.demonstrate.result (c.in_ok-command.command, is) later

pub returns-in-Demo-clause-depot : goal.returns-in-Demo-clause-depot
returns-in-Demo-clause-depot g c = demo_cause (g.D.Depot.faults c.args.depot.now) c.demonstrate.result c.demonstrate.ensures.fault

pub returns-in-Demo-clause-stores : goal.returns-in-Demo-clause-stores
returns-in-Demo-clause-stores g c = demo_blame (g.D.Depot.store_faults c.args.depot.now) c.demonstrate.result c.demonstrate.ensures.fault

pub returns-in-Demo-clause-worked : goal.returns-in-Demo-clause-worked
returns-in-Demo-clause-worked g c =
    let is : IsCommand c.args.line.now.hosts c.args.line.now.words.now c.in_ok-command.command = search rules in
    let demo : c.in_ok-command.command.verb ≡ verbs.Demo = search rules in
    hosts_rested g.H.Host.inputs g.H.Host.faults g.H.Host.begun (line_given c.args.line.now) c.in_ok-command.command c.args.hosts.now c.demonstrate.new.progress.ends (found_in c.demonstrate.result)
    (record { is = is; demo = demo }) c.demonstrate.ensures.none_failed c.demonstrate.ensures.committed

pub returns-in-Demo-clause-asked : goal.returns-in-Demo-clause-asked
returns-in-Demo-clause-asked g c =
    let now = g.D.Depot.calls c.args.depot.now in
    let none : AsksScript (g.D.Depot.calls c.args.depot.now) (g.D.Depot.calls c.args.depot.now) = record { scripts = []; one = omega arith; asked = asked_nothing now now refl } in
    orderly_behind (found_in c.demonstrate.result) _ now now now none (orderly_idle c.demonstrate.result _ c.demonstrate.ensures.kept now now refl)

-- ---- a script

pub returns-in_default-clause-told : goal.returns-in_default-clause-told
returns-in_default-clause-told g c s told other =
    let line = line_given c.args.line.now in
    let command = c.in_ok-command.command in
    let tells = AllTell g.H.Host.inputs line c.args.hosts.now in
    let crew = CrewTells g.H.Host.inputs command c.args.hosts.now in
    let old = g.D.Depot.calls c.args.depot.now in
    let new = g.D.Depot.calls c.run_script.new.depot in
    let shelf = g.D.Depot.shelf c.run_script.new.depot in
    let stage = ScriptDue (given_by command) command.operand s (CommandDue command s) in
    let is : IsCommand c.args.line.now.hosts c.args.line.now.words.now c.in_ok-command.command = search rules in
    let are : AreWords (line_given c.args.line.now) c.in_ok-command.command = record { is = is; scripted = names_script c.in_ok-command.command.verb (search rules) } in
    let passes = words_pass line s command are old in
    let more : AllTell g.H.Host.inputs (line_given c.args.line.now) c.args.hosts.now → CrewTells g.H.Host.inputs c.in_ok-command.command c.args.hosts.now =
    λ all. told_are_bytes g.H.Host.inputs c.in_ok-command.command.workers c.args.hosts.now c.inputs_are_of_bytes.ensures (all c.in_ok-command.command is) in
    MatchResult-weaker c.run_script.result (c.run_script.ensures.told s told)
    (λ text h. end_told crew tells more s (IsDue line s) old new shelf c.run_script.new.progress (Ok text) (end_behind (IsDue line s) stage s crew old old new shelf c.run_script.new.progress (Ok text) passes h))
    (λ f h. end_told crew tells more s (IsDue line s) old new shelf c.run_script.new.progress (Err f) (end_behind (IsDue line s) stage s crew old old new shelf c.run_script.new.progress (Err f) passes h))

pub returns-in_default-clause-demo : goal.returns-in_default-clause-demo
returns-in_default-clause-demo g c command demo =
    let is : IsCommand c.args.line.now.hosts c.args.line.now.words.now c.in_ok-command.command = search rules in
    let are : AreWords (line_given c.args.line.now) c.in_ok-command.command = record { is = is; scripted = names_script c.in_ok-command.command.verb (search rules) } in
    absurd (no_demo (line_given c.args.line.now) c.in_ok-command.command are command demo)

pub returns-in_default-clause-untouched : goal.returns-in_default-clause-untouched
returns-in_default-clause-untouched g c command demo =
    let is : IsCommand c.args.line.now.hosts c.args.line.now.words.now c.in_ok-command.command = search rules in
    let are : AreWords (line_given c.args.line.now) c.in_ok-command.command = record { is = is; scripted = names_script c.in_ok-command.command.verb (search rules) } in
    absurd (no_demo (line_given c.args.line.now) c.in_ok-command.command are command demo)

pub returns-in_default-clause-fault : goal.returns-in_default-clause-fault
returns-in_default-clause-fault g c = IfErr-weaker c.run_script.result _ _ (λ f h. h.1) c.run_script.ensures.left.fault

pub returns-in_default-clause-words : goal.returns-in_default-clause-words
returns-in_default-clause-words g c =
    let is : IsCommand c.args.line.now.hosts c.args.line.now.words.now c.in_ok-command.command = search rules in
    later_words (line_given c.args.line.now) c.run_script.result (c.in_ok-command.command, is) c.run_script.ensures.left.fault

pub returns-in_default-clause-worked : goal.returns-in_default-clause-worked
returns-in_default-clause-worked g c =
    let is : IsCommand c.args.line.now.hosts c.args.line.now.words.now c.in_ok-command.command = search rules in
    let are : AreWords (line_given c.args.line.now) c.in_ok-command.command = record { is = is; scripted = names_script c.in_ok-command.command.verb (search rules) } in
    hosts_worked g.H.Host.inputs g.H.Host.faults g.H.Host.begun (line_given c.args.line.now) c.in_ok-command.command c.args.hosts.now c.run_script.new.hosts c.run_script.new.progress.ends (found_in c.run_script.result) are
    c.run_script.ensures.worked
