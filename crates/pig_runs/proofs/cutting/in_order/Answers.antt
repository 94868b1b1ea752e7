use Rattle.pig_runs.proofs.Lending.{stand_sorted}
use Rattle.pig_runs.proofs.cutting.in_order.Goals as goal

pub returns : goal.returns
returns c = stand_sorted _ _ _ _ c.in_ok-all.ensures c.sort_lent.ensures
