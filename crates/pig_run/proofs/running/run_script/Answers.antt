use Rattle.std.proofs.Common.{rules, refl, ◌≡◌, [], ◌∷◌, Some, Ok, Err, IfOk, IfErr, MatchResult, map, subst, sym, ◌∙◌, arith}
use Rattle.std.proofs.lemmas.Result.{IfErr-weaker, MatchResult-weaker}
use Rattle.std.specs.List.{AllByRecursion}
use Rattle.pig_plan.specs.Plans.{plan_of}
use Rattle.pig_run.specs.Due.{CommandDue, ScriptDue, given_by}
use Rattle.pig_run.specs.Orderly.{AsksScript}
use Rattle.pig_run.specs.Running.{RunEnd, found_in}
use Rattle.pig_run.specs.Steps.{IsPlanFault, Passes, StopsIn}
use Rattle.pig_run.specs.Told.{CrewTells, TellsOf}
use Rattle.pig_run.proofs.Crews.{crew_idle, plan_fault}
use Rattle.pig_run.proofs.Deciding.{some_command_due, some_script}
use Rattle.pig_run.proofs.Ending.{end_behind, told_stopped}
use Rattle.pig_run.proofs.Ordering.{fresh_kept, orderly_behind, orderly_idle}
use Rattle.pig_run.proofs.Readings.{PlanLaws}
use Rattle.pig_run.proofs.Wording.{later_plan}
use Rattle.pig_run.proofs.running.run_script.Goals as goal

pub obey-requires-clause-begins : goal.obey-requires-clause-begins
obey-requires-clause-begins g c κs within =
    let begins = c.requires.begins in
    record {
      few = begins.few;
      usable = begins.usable;
      tells = subst (λ shelf. AllByRecursion (TellsOf shelf) (map g.H.Host.inputs c.args.hosts.now)) (sym c.load_script.ensures.looked.shelf) begins.tells;
      fresh = begins.fresh;
    }

pub returns-in_err-checked-clause-told : goal.returns-in_err-checked-clause-told
returns-in_err-checked-clause-told g c s told =
    let law = c.a_script_has_one_plan.ensures in
    let laws : PlanLaws = record { one = law.one; some = law.some; never_both = law.never_both; one_statement = law.one_statement } in
    let command = c.args.command in
    let next = CommandDue command s in
    let tells = CrewTells g.H.Host.inputs c.args.command c.args.hosts.now in
    let old = g.D.Depot.calls c.args.depot.now in
    let new = g.D.Depot.calls c.load_script.new.depot in
    let shelf = g.D.Depot.shelf c.load_script.new.depot in
    let stopped : MatchResult c.from_residual.result
    (λ text. RunEnd (ScriptDue (given_by c.args.command) c.args.command.operand s (CommandDue c.args.command s)) s (CrewTells g.H.Host.inputs c.args.command c.args.hosts.now) (g.D.Depot.calls c.args.depot.now) (g.D.Depot.calls c.load_script.new.depot)
    (g.D.Depot.shelf c.load_script.new.depot) c.args.progress.now (Ok text))
    (StopsIn (ScriptDue (given_by c.args.command) c.args.command.operand s (CommandDue c.args.command s)) (g.D.Depot.calls c.args.depot.now) (g.D.Depot.calls c.load_script.new.depot)) = search rules in
    MatchResult-weaker c.from_residual.result stopped (λ text h. h)
    (λ f h. told_stopped (ScriptDue (given_by command) command.operand s next) (some_script laws (given_by command) command.operand s next (some_command_due command c.requires.scripted s)) s tells old new shelf c.args.progress.now
    (c.load_script.ensures.looked.shelf ∙ told) c.requires.begins.fresh f h)

pub returns-clause-told : goal.returns-clause-told
returns-clause-told g c s told =
    let command = c.args.command in
    let checked = c.in_ok-checked.checked in
    let stage = ScriptDue (given_by command) command.operand s (CommandDue command s) in
    let next = CommandDue command s checked.statements (plan_of checked.plan) in
    let tells = CrewTells g.H.Host.inputs c.args.command c.args.hosts.now in
    let old = g.D.Depot.calls c.args.depot.now in
    let mid = g.D.Depot.calls c.load_script.new.depot in
    let new = g.D.Depot.calls c.obey.new.depot in
    let shelf = g.D.Depot.shelf c.obey.new.depot in
    let told_mid : g.D.Depot.shelf c.load_script.new.depot ≡ Some s = c.load_script.ensures.looked.shelf ∙ told in
    let passes : Passes (ScriptDue (given_by c.args.command) c.args.command.operand s (CommandDue c.args.command s))
    (CommandDue c.args.command s c.in_ok-checked.checked.statements (plan_of c.in_ok-checked.checked.plan)) (g.D.Depot.calls c.args.depot.now) (g.D.Depot.calls c.load_script.new.depot) = search rules in
    MatchResult-weaker c.obey.result (c.obey.ensures.told s told_mid)
    (λ text h. end_behind stage next s tells old mid new shelf c.obey.new.progress (Ok text) passes h)
    (λ f h. end_behind stage next s tells old mid new shelf c.obey.new.progress (Err f) passes h)

pub returns-in_err-checked-clause-worked : goal.returns-in_err-checked-clause-worked
returns-in_err-checked-clause-worked g c =
    let stops : IfOk c.from_residual.result (λ _. ⊥) = search rules in
    let is : IfErr c.from_residual.result IsPlanFault = search rules in
    crew_idle g.H.Host.inputs g.H.Host.faults g.H.Host.begun c.args.command c.args.hosts.now c.args.progress.now.ends (found_in c.from_residual.result) c.requires.begins.fresh.ends (plan_fault c.from_residual.result stops is)

pub returns-in_err-checked-clause-left : goal.returns-in_err-checked-clause-left
returns-in_err-checked-clause-left g c =
    let is : IfErr c.from_residual.result IsPlanFault = search rules in
    let new = g.D.Depot.calls c.load_script.new.depot in
    let script : AsksScript (g.D.Depot.calls c.args.depot.now) (g.D.Depot.calls c.load_script.new.depot) = record { scripts = c.args.command.operand ∷ []; one = omega arith; asked = c.load_script.ensures.looked.asked } in
    record {
      fault = IfErr-weaker c.from_residual.result _ _ (λ f h. later_plan f h) is;
      depot = search rules;
      stores = search rules;
      asked = orderly_behind (found_in c.from_residual.result) _ (g.D.Depot.calls c.args.depot.now) new new script (orderly_idle c.from_residual.result _ (fresh_kept c.args.progress.now c.requires.begins.fresh) new new refl);
    }

pub returns-clause-left : goal.returns-clause-left
returns-clause-left g c =
    let script : AsksScript (g.D.Depot.calls c.args.depot.now) (g.D.Depot.calls c.load_script.new.depot) = record { scripts = c.args.command.operand ∷ []; one = omega arith; asked = c.load_script.ensures.looked.asked } in
    record {
      fault = c.obey.ensures.left.fault;
      depot = search rules;
      stores = search rules;
      asked = orderly_behind (found_in c.obey.result) _ (g.D.Depot.calls c.args.depot.now) (g.D.Depot.calls c.load_script.new.depot) (g.D.Depot.calls c.obey.new.depot) script c.obey.ensures.left.asked;
    }
