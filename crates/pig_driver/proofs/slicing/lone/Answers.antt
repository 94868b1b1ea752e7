use Rattle.std.proofs.Common.{rules, ◌≡◌, Some}
use Rattle.pig_physical.specs.Handed.{form_of, lone_run, runs_of_out}
use Rattle.pig_physical.specs.Outs.{runs_held}
use Rattle.pig_driver.proofs.Cut.{is_lone}
use Rattle.pig_driver.proofs.slicing.lone.Goals as goal

pub returns-in-Some-into_run : goal.returns-in-Some-into_run
returns-in-Some-into_run c =
    let held : Some (runs_of_out c.in-Some.runs) ≡ runs_held (form_of c.args.form) = search rules in
    let one : lone_run c.in-Some.runs ≡ Some c.in-Some-into_run.run' = search rules in
    is_lone (form_of c.args.form) c.in-Some.runs c.in-Some-into_run.run' held one
