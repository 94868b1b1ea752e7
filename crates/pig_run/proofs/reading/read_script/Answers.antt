use Rattle.std.proofs.Common.{rules, refl, ◌<◌, ◌≤◌, ◌^◌, length, map}
use Rattle.pig_params.specs.Given.{named_of}
use Rattle.pig_run.specs.declared.outcome.RunFault.TheVariants as fault
use Rattle.pig_run.specs.declared.outcome.TooLarge.TheVariants as large
use Rattle.pig_run.specs.Reading.{IsFilled, IsFound, too_long, short}
use Rattle.pig_run.specs.Refusals.{too_large}
use Rattle.pig_run.proofs.ReadingSteps.{reads_refusal, reads_weaker}
use Rattle.pig_run.proofs.reading.read_script.Goals as goal

pub returns-then-script-gt-MOST_SCRIPT : goal.returns-then-script-gt-MOST_SCRIPT
returns-then-script-gt-MOST_SCRIPT c =
    let long : 2 ^ 20 < length c.args.script.now = search rules in
    reads_refusal (IsFound (map named_of c.args.params.now) c.args.script.now) (too_large large.Script) (fault.TooLarge large.Script) (too_long long) refl tt

pub returns : goal.returns
returns c =
    let few : length c.args.script.now ≤ 2 ^ 20 = search rules in
    let given = map named_of c.args.params.now in
    reads_weaker (IsFilled given c.args.script.now) (IsFound given c.args.script.now) (λ v h. short few h) c.plan_of_unfilled.result c.plan_of_unfilled.ensures
