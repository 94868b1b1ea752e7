use Rattle.std.proofs.Common.{rules, refl, ◌≡◌, ◌≤◌, ◌^◌, length, map, Ok}
use Rattle.pig_params.specs.Given.{named_of}
use Rattle.pig_params.specs.Substitution.{substituted}
use Rattle.pig_run.specs.Reading.{IsFilled, IsLexed, filled}
use Rattle.pig_run.proofs.ReadingSteps.{grown_told, missing_told, reads_weaker}
use Rattle.pig_run.proofs.reading.plan_of_unfilled.Goals as goal

pub returns-in-Ok : goal.returns-in-Ok
returns-in-Ok c =
    let given = map named_of c.args.params.now in
    let is : substituted (map named_of c.args.params.now) c.args.script.now ≡ Ok c.as_slice.result.now = search rules in
    let few : length c.as_slice.result.now ≤ 2 ^ 20 = search rules in
    reads_weaker (IsLexed c.as_slice.result.now) (IsFilled given c.args.script.now) (λ v h. filled is few h) c.plan_of_text.result c.plan_of_text.ensures

pub returns-in-Err-Missing : goal.returns-in-Err-Missing
returns-in-Err-Missing c = missing_told (map named_of c.args.params.now) c.args.script.now (search rules)

pub returns-in-Err-TooLong : goal.returns-in-Err-TooLong
returns-in-Err-TooLong c = grown_told (map named_of c.args.params.now) c.args.script.now 1048576 refl (search rules)
