use Rattle.pig_reduce.proofs.Finishing.{rows_valid}
use Rattle.pig_reduce.proofs.PartRanks.{one_unpacked}
use Rattle.pig_reduce.proofs.ranking.unpacked.Goals as goal

pub loop-at-preserved : goal.loop-at-preserved
loop-at-preserved c = (
  one_unpacked c.args.packed.now c.loop-at.at c.loop-at.rows c.push.new.self c.in_ok-unpacked_row.field-0 c.in_ok-unpacked_row.ensures.is c.loop-at.invariant.0
      c.in_ok-push.ensures.ok,
  rows_valid c.loop-at.rows c.push.new.self c.in_ok-unpacked_row.field-0 c.in_ok-push.ensures.ok c.loop-at.invariant.1 c.in_ok-unpacked_row.ensures.values,
)
