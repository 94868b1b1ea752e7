use Rattle.pig_rank.proofs.Ranked.{rank_sees_bags, ranks_see_bags}
use Rattle.pig_rank.proofs.laws.ranks_see_bags.Goals as goal

pub returns : goal.returns
returns c = record { rank = rank_sees_bags; rows = ranks_see_bags }
