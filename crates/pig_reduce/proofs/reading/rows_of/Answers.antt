use Rattle.std.proofs.Common.{arith}
use Rattle.pig_operators.proofs.Adding.{rows_more}
use Rattle.pig_reduce.proofs.Finishing.{rows_valid}
use Rattle.pig_reduce.proofs.reading.rows_of.Goals as goal

pub loop-at-preserved : goal.loop-at-preserved
loop-at-preserved c = (
  rows_more c.args.entries.now.entries c.args.from c.loop-at.at c.loop-at.rows c.push.new.self c.in_ok-row_of.field-0 c.loop-at.auto.at
      (let high = c.loop-at-test.true in let within = c.requires.within in omega (arith, high, within)) c.in_ok-row_of.ensures.is c.loop-at.invariant.0
      c.in_ok-push.ensures.ok,
  rows_valid c.loop-at.rows c.push.new.self c.in_ok-row_of.field-0 c.in_ok-push.ensures.ok c.loop-at.invariant.1 c.in_ok-row_of.ensures.values,
)
