use Rattle.std.proofs.Common.{rules, ◌≡◌, ◌≤◌, false, sym, subst}
use Rattle.pig_plan.specs.Plans.{plan_of}
use Rattle.pig_plan.specs.Valid.{IsPlan}
use Rattle.pig_physical.specs.Seen.{cut_of, staged}
use Rattle.pig_cutter.specs.Limits.{has_too_many}
use Rattle.pig_driver.specs.Standing.{HaveFewTasks}
use Rattle.pig_driver_tests.proofs.Untold.{untold}
use Rattle.pig_driver_tests.proofs.running.by_tasks.Goals as goal

pub run_stages-ran-requires-clause-few : goal.run_stages-ran-requires-clause-few
run_stages-ran-requires-clause-few g c κs within =
    let cut = cut_of c.args.plan.now c.sizes-sizes.result c.args.turn.reducers c.args.turn.split in
    let is : c.expect-stages.result ≡ cut = search rules in
    let few : has_too_many (staged cut) ≡ false = search rules in
    let valid : IsPlan (plan_of c.args.plan.now) = search rules in
    let most : c.args.turn.reducers ≤ 65536 = search rules in
    subst (λ v. HaveFewTasks (staged v)) (sym is) (c.few_tasks_fit.ensures (staged cut) valid few most)

pub run_stages-ran-requires-clause-sizes : goal.run_stages-ran-requires-clause-sizes
run_stages-ran-requires-clause-sizes g c κs within = untold (staged c.expect-stages.result) c.as_mut_slice.result.now
