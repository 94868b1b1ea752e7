use Rattle.std.proofs.Common.{rules, refl, ◌≡◌, Ok, Err}
use Rattle.std.proofs.lemmas.Result.{MatchResult-weaker}
use Rattle.pig_plan.specs.Plans.{plan_of}
use Rattle.pig_words.specs.declared.words.Verb.TheVariants as verbs
use Rattle.pig_run.specs.Due.{CommandDue, InputsDue, check_due, explain_due}
use Rattle.pig_run.specs.Running.{found_in}
use Rattle.pig_explain.specs.Explained.{explain_text}
use Rattle.pig_run.specs.Texts.{ok_text}
use Rattle.pig_run.specs.Told.{CrewTells}
use Rattle.pig_run.proofs.Crews.{crew_idle, memory_fault}
use Rattle.pig_run.proofs.Deciding.{some_command_due}
use Rattle.pig_run.proofs.Ending.{end_behind, told_shown, told_stopped}
use Rattle.pig_run.proofs.Ordering.{fresh_kept, orderly_idle}
use Rattle.pig_run.proofs.Stages.{wants}
use Rattle.pig_run.proofs.Wording.{run_passes}
use Rattle.pig_run.proofs.running.obey.Goals as goal

pub returns-in-Run-clause-told : goal.returns-in-Run-clause-told
returns-in-Run-clause-told g c s told =
    let r = c.args.request in
    let tells = CrewTells g.H.Host.inputs c.args.request.command c.args.hosts.now in
    let old = g.D.Depot.calls c.args.depot.now in
    let new = g.D.Depot.calls c.run_on_crew.new.depot in
    let shelf = g.D.Depot.shelf c.run_on_crew.new.depot in
    let plan = plan_of r.checked.plan in
    let stage = CommandDue r.command s r.checked.statements plan in
    let is : c.args.request.command.verb ≡ verbs.Run = search rules in
    let passes = run_passes r.command s r.checked.statements plan is old in
    MatchResult-weaker c.run_on_crew.result (c.run_on_crew.ensures.told s told)
    (λ text h. end_behind stage (InputsDue r.command s plan) s tells old old new shelf c.run_on_crew.new.progress (Ok text) passes h)
    (λ f h. end_behind stage (InputsDue r.command s plan) s tells old old new shelf c.run_on_crew.new.progress (Err f) passes h)

pub returns-in-Check-clause-told : goal.returns-in-Check-clause-told
returns-in-Check-clause-told g c s told =
    let r = c.args.request in
    let tells = CrewTells g.H.Host.inputs c.args.request.command c.args.hosts.now in
    let now = g.D.Depot.calls c.args.depot.now in
    let shelf = g.D.Depot.shelf c.args.depot.now in
    let plan = plan_of r.checked.plan in
    let stage = CommandDue r.command s r.checked.statements plan in
    let is : c.args.request.command.verb ≡ verbs.Check = search rules in
    MatchResult-weaker c.print_check.result c.print_check.ensures
    (λ text same. told_shown stage (ok_text r.checked.statements) (check_due is) s tells now now shelf c.args.progress.now refl told c.requires.begins.fresh text same)
    (λ f same. told_stopped stage (some_command_due r.command c.requires.scripted s r.checked.statements plan) s tells now now shelf c.args.progress.now told c.requires.begins.fresh f (wants stage now now refl f same))

pub returns-in-Check-clause-worked : goal.returns-in-Check-clause-worked
returns-in-Check-clause-worked g c =
    crew_idle g.H.Host.inputs g.H.Host.faults g.H.Host.begun c.args.request.command c.args.hosts.now c.args.progress.now.ends (found_in c.print_check.result) c.requires.begins.fresh.ends
    (memory_fault c.print_check.result (MatchResult-weaker c.print_check.result c.print_check.ensures (λ text same. tt) (λ f is. is)))

pub returns-in-Check-clause-left : goal.returns-in-Check-clause-left
returns-in-Check-clause-left g c = record {
  fault = search rules;
  depot = search rules;
  stores = search rules;
  asked = orderly_idle c.print_check.result _ (fresh_kept c.args.progress.now c.requires.begins.fresh) (g.D.Depot.calls c.args.depot.now) (g.D.Depot.calls c.args.depot.now) refl;
}

pub returns-in-Explain-clause-told : goal.returns-in-Explain-clause-told
returns-in-Explain-clause-told g c s told =
    let r = c.args.request in
    let tells = CrewTells g.H.Host.inputs c.args.request.command c.args.hosts.now in
    let now = g.D.Depot.calls c.args.depot.now in
    let shelf = g.D.Depot.shelf c.args.depot.now in
    let plan = plan_of r.checked.plan in
    let stage = CommandDue r.command s r.checked.statements plan in
    let is : c.args.request.command.verb ≡ verbs.Explain = search rules in
    MatchResult-weaker c.print_explain.result c.print_explain.ensures
    (λ text shows. told_shown stage (explain_text plan shows.0) (explain_due is shows.1) s tells now now shelf c.args.progress.now refl told c.requires.begins.fresh text shows.2)
    (λ f same. told_stopped stage (some_command_due r.command c.requires.scripted s r.checked.statements plan) s tells now now shelf c.args.progress.now told c.requires.begins.fresh f (wants stage now now refl f same))

pub returns-in-Explain-clause-worked : goal.returns-in-Explain-clause-worked
returns-in-Explain-clause-worked g c =
    crew_idle g.H.Host.inputs g.H.Host.faults g.H.Host.begun c.args.request.command c.args.hosts.now c.args.progress.now.ends (found_in c.print_explain.result) c.requires.begins.fresh.ends
    (memory_fault c.print_explain.result (MatchResult-weaker c.print_explain.result c.print_explain.ensures (λ text same. tt) (λ f is. is)))

pub returns-in-Explain-clause-left : goal.returns-in-Explain-clause-left
returns-in-Explain-clause-left g c = record {
  fault = search rules;
  depot = search rules;
  stores = search rules;
  asked = orderly_idle c.print_explain.result _ (fresh_kept c.args.progress.now c.requires.begins.fresh) (g.D.Depot.calls c.args.depot.now) (g.D.Depot.calls c.args.depot.now) refl;
}
