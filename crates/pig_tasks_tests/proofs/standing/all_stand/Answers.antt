use Rattle.std.proofs.Common.{rules, ◌≡◌, length}
use Rattle.std.specs.Prelude.{Some, slice_get}
use Rattle.pig_physical.specs.Seen.{staged}
use Rattle.pig_physical.specs.Stages.{tasks_in}
use Rattle.pig_tasks_tests.proofs.Fitting.{has_all}
use Rattle.pig_tasks_tests.proofs.standing.all_stand.Goals as goal

pub returns-in-Some : goal.returns-in-Some
returns-in-Some c = λ held.
    let wave : slice_get c.args.prior.now c.args.wave ≡ Some c.in-Some.outs.now = search rules in
    let size : length c.in-Some.outs.now ≡ length (tasks_in (staged c.args.stages.now) c.args.wave) = search rules in
    has_all (staged c.args.stages.now) c.args.prior.now c.args.wave c.in-Some.outs.now wave c.requires.fit size
