use Rattle.std.proofs.Common.{rules, Some, subst, sym, arith}
use Rattle.pig_plan.specs.Valid.{IsPlan}
use Rattle.pig_physical.specs.Seen.{staged}
use Rattle.pig_run.specs.Blame.{HaveWorked}
use Rattle.pig_run.specs.Running.{WavesEnd}
use Rattle.pig_run.proofs.Crews.{waves_end, worked_all, worked_fault}
use Rattle.pig_run.proofs.finding.run_waves.Goals as goal

pub run_stages-requires-clause-few : goal.run_stages-requires-clause-few
run_stages-requires-clause-few g c κs within =
    let most = c.requires.reducers.1 in
    let valid : IsPlan (staged c.args.stages.now).plan = search rules in
    c.few_tasks_fit.ensures (staged c.args.stages.now) valid c.requires.few (omega (arith, most))

pub returns-in-Ok-clause-worked : goal.returns-in-Ok-clause-worked
returns-in-Ok-clause-worked g c =
    worked_all g.H.Host.inputs g.H.Host.faults g.H.Host.begun c.args.limit c.args.hosts.now c.run_stages.new.hosts c.run_stages.new.ends c.run_stages.ensures.inputs c.run_stages.ensures.failures
    (staged c.args.stages.now) c.in-Ok.ensures.begun c.in-Ok.ensures.won

pub returns-in-Err-clause-ended : goal.returns-in-Err-clause-ended
returns-in-Err-clause-ended g c =
    subst (WavesEnd c.args.limit (staged c.args.stages.now) c.run_stages.new.ends) (sym c.stages_fault.ensures)
    (waves_end c.args.limit (staged c.args.stages.now) c.run_stages.new.ends c.in-Err.fault c.in-Err.ensures.failed)

pub returns-in-Err-clause-worked : goal.returns-in-Err-clause-worked
returns-in-Err-clause-worked g c =
    subst (λ f. HaveWorked g.H.Host.inputs g.H.Host.faults g.H.Host.begun c.args.limit c.args.hosts.now c.run_stages.new.hosts c.run_stages.new.ends (Some f)) (sym c.stages_fault.ensures)
    (worked_fault g.H.Host.inputs g.H.Host.faults g.H.Host.begun c.args.limit c.args.hosts.now c.run_stages.new.hosts c.run_stages.new.ends c.run_stages.ensures.inputs c.run_stages.ensures.failures
    (staged c.args.stages.now) c.in-Err.fault c.in-Err.ensures.failed c.in-Err.ensures.begun)
