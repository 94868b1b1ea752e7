use Rattle.std.proofs.Common.{rules, refl, ◌≡◌, ◌⊎◌, ◌≤◌, ◌<◌, Ok, Err, IfOk, IfErr, MatchResult, map, true, false, ap, subst, sym, ◌∙◌, arith}
use Rattle.std.proofs.lemmas.Result.{IfErr-weaker, MatchResult-weaker}
use Rattle.std.specs.List.{AllByRecursion}
use Rattle.pig_plan.specs.Plans.{plan_of}
use Rattle.pig_cutter.specs.Limits.{has_too_many}
use Rattle.pig_driver.specs.Going.{TellSizes}
use Rattle.pig_physical.specs.Seen.{cut_of, staged}
use Rattle.pig_run.specs.declared.outcome.RunFault.TheVariants as fault
use Rattle.pig_run.specs.declared.outcome.TooLarge.TheVariants as large
use Rattle.pig_run.specs.Due.{TasksDue, run_of}
use Rattle.pig_run.specs.Running.{RunEnd, RunsEnd, found_in}
use Rattle.pig_run.specs.Told.{TellsInputs}
use Rattle.pig_run.proofs.Crews.{cut_fault, idle_worked}
use Rattle.pig_run.proofs.Ending.{told_runs, told_stopped}
use Rattle.pig_run.proofs.Deciding.{some_tasks}
use Rattle.pig_run.proofs.Ordering.{fresh_kept, makes_none}
use Rattle.pig_run.proofs.Sizes.{are_fitting, stages_are, tasks_due, tasks_stop, tell_sizes}
use Rattle.pig_run.proofs.Wording.{later_cut}
use Rattle.pig_run.proofs.running.perform.Goals as goal

pub carry_out-requires-clause-hosts : goal.carry_out-requires-clause-hosts
carry_out-requires-clause-hosts g c κs within =
    let workers = c.requires.begins.usable.workers in
    let some = workers.0 in
    let most = workers.1 in
    (omega (arith, some, most), c.requires.begins.few)

pub carry_out-requires-clause-reducers : goal.carry_out-requires-clause-reducers
carry_out-requires-clause-reducers g c κs within =
    subst (λ cut. (0 < (staged cut).sizing.reducers) × ((staged cut).sizing.reducers ≤ 256)) (sym c.in_ok-stages.ensures.stages) c.requires.begins.usable.reducers

pub carry_out-requires-clause-split : goal.carry_out-requires-clause-split
carry_out-requires-clause-split g c κs within = subst (λ cut. 0 < (staged cut).sizing.split) (sym c.in_ok-stages.ensures.stages) c.requires.begins.usable.split

pub carry_out-requires-clause-few : goal.carry_out-requires-clause-few
carry_out-requires-clause-few g c κs within = subst (λ cut. has_too_many (staged cut) ≡ false) (sym c.in_ok-stages.ensures.stages) c.in_ok-stages.ensures.few

pub carry_out-requires-clause-sizes : goal.carry_out-requires-clause-sizes
carry_out-requires-clause-sizes g c κs within =
    let p = c.args.prepared.now in
    subst (λ cut. TellSizes (staged cut) (map g.H.Host.inputs c.args.hosts.now)) (sym c.in_ok-stages.ensures.stages)
    (tell_sizes (g.D.Depot.shelf c.args.depot.now) (staged (cut_of p.plan p.sizes c.args.command.now.reducers c.args.command.now.split))
    (λ s told. are_fitting s p.sizes (plan_of p.plan) c.args.command.now.reducers c.args.command.now.split c.requires.prepared.paths (c.requires.ready s told).inputs)
    (map g.H.Host.inputs c.args.hosts.now) c.requires.begins.tells)

pub carry_out-requires-clause-plan : goal.carry_out-requires-clause-plan
carry_out-requires-clause-plan g c κs within = ap (λ cut. (staged cut).plan) c.in_ok-stages.ensures.stages

pub returns-in_err-stages-clause-told : goal.returns-in_err-stages-clause-told
returns-in_err-stages-clause-told g c s told =
    let p = c.args.prepared.now in
    let plan = plan_of p.checked in
    let command = c.args.command.now in
    let tells = AllByRecursion TellsInputs (map g.H.Host.inputs c.args.hosts.now) in
    let now = g.D.Depot.calls c.args.depot.now in
    let shelf = g.D.Depot.shelf c.args.depot.now in
    let stopped : MatchResult c.from_residual.result
    (λ text. RunEnd (TasksDue c.args.command.now s (plan_of c.args.prepared.now.checked)) s (AllByRecursion TellsInputs (map g.H.Host.inputs c.args.hosts.now)) (g.D.Depot.calls c.args.depot.now) (g.D.Depot.calls c.args.depot.now)
    (g.D.Depot.shelf c.args.depot.now) c.args.progress.now (Ok text))
    (λ f. ((f ≡ fault.TooLarge large.Tasks) × (has_too_many (staged (cut_of c.args.prepared.now.plan c.args.prepared.now.sizes c.args.command.now.reducers c.args.command.now.split)) ≡ true)) ⊎ (f ≡ fault.OutOfMemory)) = search rules in
    MatchResult-weaker c.from_residual.result stopped (λ text h. h)
    (λ f h. told_stopped (TasksDue command s plan) (some_tasks command s plan) s tells now now shelf c.args.progress.now told c.requires.begins.fresh f
    (tasks_stop command s plan p.plan c.requires.prepared.reached p.sizes c.requires.prepared.paths (c.requires.ready s told).inputs now f h))

pub returns-clause-told : goal.returns-clause-told
returns-clause-told g c s told =
    let p = c.args.prepared.now in
    let plan = plan_of p.checked in
    let command = c.args.command.now in
    let tells = AllByRecursion TellsInputs (map g.H.Host.inputs c.args.hosts.now) in
    let old = g.D.Depot.calls c.args.depot.now in
    let new = g.D.Depot.calls c.carry_out.new.depot in
    let shelf = g.D.Depot.shelf c.carry_out.new.depot in
    let progress = c.carry_out.new.progress in
    let cut = c.in_ok-stages.ensures.stages in
    let same = ap staged cut ∙ stages_are command s plan p.plan c.requires.prepared.reached p.sizes c.requires.prepared.paths (c.requires.ready s told).inputs in
    let due = tasks_due command s plan p.plan c.requires.prepared.reached p.sizes c.requires.prepared.paths (c.requires.ready s told).inputs c.in_ok-stages.ensures.few in
    MatchResult-weaker c.carry_out.result (c.carry_out.ensures.told s told)
    (λ text h. told_runs (TasksDue command s plan) (run_of command s plan (plan_of p.plan)) s tells old new shelf progress (Ok text) due
    (subst (λ stages. RunsEnd (record { plan = plan; stages = stages; limit = command.attempts }) s tells old new shelf progress (Ok text)) same h))
    (λ f h. told_runs (TasksDue command s plan) (run_of command s plan (plan_of p.plan)) s tells old new shelf progress (Err f) due
    (subst (λ stages. RunsEnd (record { plan = plan; stages = stages; limit = command.attempts }) s tells old new shelf progress (Err f)) same h))

pub returns-in_err-stages-clause-worked : goal.returns-in_err-stages-clause-worked
returns-in_err-stages-clause-worked g c =
    let stops : IfOk c.from_residual.result (λ _. ⊥) = search rules in
    let is : IfErr c.from_residual.result (λ f. ((f ≡ fault.TooLarge large.Tasks) × (has_too_many (staged (cut_of c.args.prepared.now.plan c.args.prepared.now.sizes c.args.command.now.reducers c.args.command.now.split)) ≡ true)) ⊎ (f ≡ fault.OutOfMemory)) = search rules in
    idle_worked g.H.Host.inputs g.H.Host.faults g.H.Host.begun c.args.command.now.attempts c.args.hosts.now c.args.progress.now.ends (found_in c.from_residual.result) c.requires.begins.fresh.ends
    (cut_fault _ c.from_residual.result stops is)

pub returns-in_err-stages-clause-left : goal.returns-in_err-stages-clause-left
returns-in_err-stages-clause-left g c =
    let stops : IfOk c.from_residual.result (λ _. ⊥) = search rules in
    let is : IfErr c.from_residual.result (λ f. ((f ≡ fault.TooLarge large.Tasks) × (has_too_many (staged (cut_of c.args.prepared.now.plan c.args.prepared.now.sizes c.args.command.now.reducers c.args.command.now.split)) ≡ true)) ⊎ (f ≡ fault.OutOfMemory)) = search rules in
    record {
      fault = IfErr-weaker c.from_residual.result _ _ (λ f h. later_cut f h) is;
      depot = search rules;
      stores = search rules;
      asked = makes_none c.from_residual.result stops (map (λ store. store.dir) c.args.prepared.now.stores) _ (λ _. fresh_kept c.args.progress.now c.requires.begins.fresh) (g.D.Depot.calls c.args.depot.now) (g.D.Depot.calls c.args.depot.now) refl;
    }
