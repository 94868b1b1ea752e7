use Rattle.pig_share.proofs.Meaning.{shared_means}
use Rattle.pig_share.proofs.laws.shared_plans_mean_the_same.Goals as goal

pub returns : goal.returns
returns c = shared_means
