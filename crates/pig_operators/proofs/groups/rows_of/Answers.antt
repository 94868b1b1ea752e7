use Rattle.std.proofs.Common.{arith}
use Rattle.pig_operators.proofs.Adding.{rows_more}
use Rattle.pig_operators.proofs.groups.rows_of.Goals as goal

pub loop-at-preserved : goal.loop-at-preserved
loop-at-preserved c =
    rows_more c.args.stretch.now.run.now.entries c.args.stretch.now.from c.loop-at.at c.loop-at.rows c.push.new.self c.in_ok-row.field-0 c.loop-at.auto.at (let high = c.loop-at-test.true in let within = c.args.stretch.now.within in omega (arith, high, within))
    c.in_ok-row.ensures c.loop-at.invariant c.in_ok-push.ensures.ok
