use Rattle.pig_cuts.proofs.Means.{cut_plans_mean_the_same}
use Rattle.pig_cuts.proofs.laws.cut_plans_mean_the_same.Goals as goal

pub returns : goal.returns
returns c = cut_plans_mean_the_same
