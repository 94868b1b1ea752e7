use Rattle.pig_rank.proofs.Keys.{order_sorted}
use Rattle.pig_rank.proofs.Ranked.{parts_sorted}
use Rattle.pig_rank.proofs.laws.ordered_rows_are_sorted.Goals as goal

pub returns : goal.returns
returns c = record { rows = order_sorted; parts = parts_sorted }
