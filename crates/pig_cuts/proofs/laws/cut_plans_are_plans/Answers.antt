use Rattle.pig_cuts.proofs.CutFits.{cut_plans_are_plans}
use Rattle.pig_cuts.proofs.laws.cut_plans_are_plans.Goals as goal

pub returns : goal.returns
returns c = cut_plans_are_plans
