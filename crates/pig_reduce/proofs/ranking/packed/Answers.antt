use Rattle.pig_reduce.proofs.PartRanks.{row_there}
use Rattle.pig_reduce.proofs.ranking.packed.Goals as goal

pub push_row-requires-clause-values : goal.push_row-requires-clause-values
push_row-requires-clause-values c =
    row_there c.args.rows.now c.as_slice-row-items.result.now c.loop-row.row-index c.row-item.result c.as_slice-row-items.ensures c.requires c.loop-row-test.true c.row-item.is
