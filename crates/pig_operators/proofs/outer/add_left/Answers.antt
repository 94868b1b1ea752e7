use Rattle.std.proofs.Common.{◌++◌, arith}
use Rattle.pig_value.specs.Trees.{row_tree}
use Rattle.pig_plan.specs.ByKey.{nulls}
use Rattle.pig_operators.proofs.Adding.{made_more}
use Rattle.pig_operators.proofs.outer.add_left.Goals as goal

pub loop-at-preserved : goal.loop-at-preserved
loop-at-preserved c =
    made_more (λ row. row ++ nulls c.args.width) c.args.own.now.run.now.entries c.args.own.now.from c.loop-at.at c.args.rows.now c.loop-at.rows c.push.new.self (row_tree c.in_ok-row.row) c.add_nulls.new.row c.loop-at.auto.at
    (let high = c.loop-at-test.true in let within = c.args.own.now.within in omega (arith, high, within)) c.in_ok-row.ensures c.in_ok-add_nulls.ensures c.loop-at.invariant c.in_ok-push.ensures.ok
