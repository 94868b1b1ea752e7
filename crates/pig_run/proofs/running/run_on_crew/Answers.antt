use Rattle.std.proofs.Common.{refl, ◌++◌, map, subst, sym, arith}
use Rattle.std.specs.List.{AllByRecursion}
use Rattle.pig_run.specs.Running.{found_in}
use Rattle.pig_run.specs.Told.{TellsOf}
use Rattle.pig_run.proofs.Crews.{crew_worked, tell_first}
use Rattle.pig_run.proofs.running.run_on_crew.Goals as goal

pub run_plan-requires-clause-begins : goal.run_plan-requires-clause-begins
run_plan-requires-clause-begins g c κs within =
    let begins = c.requires.begins in
    let all = begins.few in
    let usable = begins.usable in
    let most = usable.workers.1 in
    let count = c.split_at_mut-crew.ensures.front_len in
    record {
      few = omega (arith, all, most, count);
      usable = record { workers = (usable.workers.0, omega (arith, count)); reducers = usable.reducers; split = usable.split; attempts = usable.attempts };
      tells =
          subst (λ hosts. AllByRecursion (TellsOf (g.D.Depot.shelf c.args.depot.now)) (map g.H.Host.inputs hosts)) (sym c.split_at_mut-crew.ensures.front)
          (tell_first (TellsOf (g.D.Depot.shelf c.args.depot.now)) g.H.Host.inputs c.args.command.now.workers c.args.hosts.now begins.tells);
      fresh = begins.fresh;
    }

pub returns-clause-worked : goal.returns-clause-worked
returns-clause-worked g c =
    let crew = c.split_at_mut-crew.result.0.now in
    let rest = c.split_at_mut-crew.result.1.now in
    crew_worked g.H.Host.inputs g.H.Host.faults g.H.Host.begun c.args.command.now crew c.run_plan.new.hosts rest c.args.hosts.now (c.run_plan.new.hosts ++ rest) c.run_plan.new.progress.ends (found_in c.run_plan.result)
    c.split_at_mut-crew.ensures.value refl c.split_at_mut-crew.ensures.front_len c.run_plan.ensures.worked
