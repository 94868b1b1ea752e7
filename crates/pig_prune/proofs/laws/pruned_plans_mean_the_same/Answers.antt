use Rattle.pig_prune.proofs.Means.{pruned_means}
use Rattle.pig_prune.proofs.laws.pruned_plans_mean_the_same.Goals as goal

pub returns : goal.returns
returns c =
    pruned_means c.function_laws.ensures.kinds c.cut_plans_mean_the_same.ensures c.live_plans_mean_the_same.ensures
