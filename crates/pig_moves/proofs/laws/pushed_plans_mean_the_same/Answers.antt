use Rattle.std.proofs.Common.{rules}
use Rattle.pig_typed.specs.Premises.{FunctionsKeepKinds}
use Rattle.pig_moves.proofs.Tidy.{pushed_means}
use Rattle.pig_moves.proofs.laws.pushed_plans_mean_the_same.Goals as goal

pub returns : goal.returns
returns c =
    let functions : FunctionsKeepKinds = search rules in
    pushed_means functions
