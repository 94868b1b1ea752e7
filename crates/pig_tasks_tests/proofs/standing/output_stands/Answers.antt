use Rattle.std.proofs.Common.{rules, ◌≡◌}
use Rattle.std.specs.Prelude.{Some, slice_get}
use Rattle.pig_physical.specs.Seen.{staged}
use Rattle.pig_tasks_tests.proofs.Fitting.{has_output}
use Rattle.pig_tasks_tests.proofs.standing.output_stands.Goals as goal

pub returns-in-Some-get : goal.returns-in-Some-get
returns-in-Some-get c =
    let wave : slice_get c.args.prior.now c.args.wave ≡ Some c.in-Some.outs.now = search rules in
    let at : slice_get c.in-Some.outs.now c.args.at ≡ Some c.in-Some-get.field-0.now = search rules in
    λ _. has_output (staged c.args.stages.now) c.args.prior.now c.args.wave c.in-Some.outs.now wave c.requires c.args.at c.in-Some-get.field-0.now at
