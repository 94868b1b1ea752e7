use Rattle.pig_rank.proofs.Ranked.{by_partitions, in_the_whole, partitions_give_the_bag, ranked_in_turn}
use Rattle.pig_rank.proofs.laws.ranks_go_by_partitions.Goals as goal

pub returns : goal.returns
returns c = record { joined = by_partitions; each = in_the_whole; in_turn = ranked_in_turn; bag = partitions_give_the_bag }
