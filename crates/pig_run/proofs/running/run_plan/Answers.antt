use Rattle.std.proofs.Common.{rules, ◌≡◌, Some, Ok, Err, IfOk, IfErr, MatchResult, map, subst, sym, ◌∙◌}
use Rattle.std.proofs.lemmas.Result.{IfErr-weaker, MatchResult-weaker}
use Rattle.std.specs.List.{AllByRecursion}
use Rattle.pig_plan.specs.Plans.{plan_of}
use Rattle.pig_run.specs.Due.{InputsDue, TasksDue}
use Rattle.pig_run.specs.Running.{RunEnd, RunTold, found_in}
use Rattle.pig_run.specs.Steps.{IsPlanFault, Passes, StopsIn}
use Rattle.pig_run.specs.Told.{TellsInputs, TellsOf}
use Rattle.pig_run.proofs.Crews.{idle_worked, plan_fault}
use Rattle.pig_run.proofs.Deciding.{some_inputs}
use Rattle.pig_run.proofs.Ending.{end_behind, told_stopped}
use Rattle.pig_run.proofs.Ordering.{fresh_kept, orderly_made, orderly_stopped}
use Rattle.pig_run.proofs.Wording.{later_plan}
use Rattle.pig_run.proofs.running.run_plan.Goals as goal

pub perform-requires-clause-begins : goal.perform-requires-clause-begins
perform-requires-clause-begins g c κs within =
    let begins = c.requires.begins in
    record {
      few = begins.few;
      usable = begins.usable;
      tells = subst (λ shelf. AllByRecursion (TellsOf shelf) (map g.H.Host.inputs c.args.hosts.now)) (sym c.prepare.ensures.looked.shelf) begins.tells;
      fresh = begins.fresh;
    }

pub returns-in_err-prepared-clause-told : goal.returns-in_err-prepared-clause-told
returns-in_err-prepared-clause-told g c s told =
    let command = c.args.command.now in
    let plan = plan_of c.args.plan in
    let tells = AllByRecursion TellsInputs (map g.H.Host.inputs c.args.hosts.now) in
    let old = g.D.Depot.calls c.args.depot.now in
    let new = g.D.Depot.calls c.prepare.new.depot in
    let shelf = g.D.Depot.shelf c.prepare.new.depot in
    let stopped : MatchResult c.from_residual.result
    (λ text. RunEnd (InputsDue c.args.command.now s (plan_of c.args.plan)) s (AllByRecursion TellsInputs (map g.H.Host.inputs c.args.hosts.now)) (g.D.Depot.calls c.args.depot.now) (g.D.Depot.calls c.prepare.new.depot)
    (g.D.Depot.shelf c.prepare.new.depot) c.args.progress.now (Ok text))
    (StopsIn (InputsDue c.args.command.now s (plan_of c.args.plan)) (g.D.Depot.calls c.args.depot.now) (g.D.Depot.calls c.prepare.new.depot)) = search rules in
    MatchResult-weaker c.from_residual.result stopped (λ text h. h)
    (λ f h. told_stopped (InputsDue command s plan) (some_inputs command s plan) s tells old new shelf c.args.progress.now (c.prepare.ensures.looked.shelf ∙ told) c.requires.begins.fresh f h)

pub returns-clause-told : goal.returns-clause-told
returns-clause-told g c s told =
    let command = c.args.command.now in
    let plan = plan_of c.args.plan in
    let tells = AllByRecursion TellsInputs (map g.H.Host.inputs c.args.hosts.now) in
    let old = g.D.Depot.calls c.args.depot.now in
    let mid = g.D.Depot.calls c.prepare.new.depot in
    let new = g.D.Depot.calls c.perform.new.depot in
    let shelf = g.D.Depot.shelf c.perform.new.depot in
    let told_mid : g.D.Depot.shelf c.prepare.new.depot ≡ Some s = c.prepare.ensures.looked.shelf ∙ told in
    let passes : Passes (InputsDue c.args.command.now s (plan_of c.args.plan)) (TasksDue c.args.command.now s (plan_of c.args.plan)) (g.D.Depot.calls c.args.depot.now) (g.D.Depot.calls c.prepare.new.depot) =
    c.in_ok-prepared.ensures.told s told c.args.command.now in
    let same : plan_of c.in_ok-prepared.prepared.checked ≡ plan_of c.args.plan = c.in_ok-prepared.ensures.checked in
    let tasks : RunTold (TasksDue c.args.command.now s (plan_of c.args.plan)) s (AllByRecursion TellsInputs (map g.H.Host.inputs c.args.hosts.now)) (g.D.Depot.calls c.prepare.new.depot) (g.D.Depot.calls c.perform.new.depot)
    (g.D.Depot.shelf c.perform.new.depot) c.perform.new.progress c.perform.result =
    subst (λ cut. RunTold (TasksDue command s cut) s tells mid new shelf c.perform.new.progress c.perform.result) same (c.perform.ensures.told s told_mid) in
    MatchResult-weaker c.perform.result tasks
    (λ text h. end_behind (InputsDue command s plan) (TasksDue command s plan) s tells old mid new shelf c.perform.new.progress (Ok text) passes h)
    (λ f h. end_behind (InputsDue command s plan) (TasksDue command s plan) s tells old mid new shelf c.perform.new.progress (Err f) passes h)

pub returns-in_err-prepared-clause-worked : goal.returns-in_err-prepared-clause-worked
returns-in_err-prepared-clause-worked g c =
    let stops : IfOk c.from_residual.result (λ _. ⊥) = search rules in
    let is : IfErr c.from_residual.result IsPlanFault = search rules in
    idle_worked g.H.Host.inputs g.H.Host.faults g.H.Host.begun c.args.command.now.attempts c.args.hosts.now c.args.progress.now.ends (found_in c.from_residual.result) c.requires.begins.fresh.ends
    (plan_fault c.from_residual.result stops is)

pub returns-in_err-prepared-clause-left : goal.returns-in_err-prepared-clause-left
returns-in_err-prepared-clause-left g c =
    let stops : IfOk c.from_residual.result (λ _. ⊥) = search rules in
    let is : IfErr c.from_residual.result IsPlanFault = search rules in
    record {
      fault = IfErr-weaker c.from_residual.result _ _ (λ f h. later_plan f h) is;
      depot = search rules;
      stores = search rules;
      asked = orderly_stopped c.prepare.result c.from_residual.result stops _ (fresh_kept c.args.progress.now c.requires.begins.fresh) (g.D.Depot.calls c.args.depot.now) (g.D.Depot.calls c.prepare.new.depot) c.prepare.ensures.looked.asked;
    }

pub returns-clause-left : goal.returns-clause-left
returns-clause-left g c = record {
  fault = c.perform.ensures.left.fault;
  depot = search rules;
  stores = search rules;
  asked =
      orderly_made c.in_ok-prepared.prepared (found_in c.perform.result) _ (g.D.Depot.calls c.args.depot.now) (g.D.Depot.calls c.prepare.new.depot) (g.D.Depot.calls c.perform.new.depot)
      c.in_ok-prepared.ensures.looked.asked c.perform.ensures.left.asked;
}
