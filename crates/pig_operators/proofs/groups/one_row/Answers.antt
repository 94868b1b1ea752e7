use Rattle.std.proofs.Common.{arith}
use Rattle.pig_operators.proofs.Singles.{fields_joined}
use Rattle.pig_operators.proofs.groups.one_row.Goals as goal

pub loop-at-preserved : goal.loop-at-preserved
loop-at-preserved c =
    fields_joined c.args.group.now.run.now.entries c.args.group.now.from c.loop-at.at c.loop-at.row c.extend.new.self c.in_ok-row.field-0 c.loop-at.auto.at (let high = c.loop-at-test.true in let within = c.args.group.now.whole.within in omega (arith, high, within))
    c.in_ok-row.ensures c.loop-at.invariant c.in_ok-extend.ensures.ok
