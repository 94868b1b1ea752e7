use Rattle.pig_alive.proofs.Means.{live_plans_mean}
use Rattle.pig_alive.proofs.laws.live_plans_mean_the_same.Goals as goal

pub returns : goal.returns
returns c =
    live_plans_mean
