use Rattle.std.proofs.Common.{map}
use Rattle.pig_value.specs.Trees.{tree}
use Rattle.pig_operators.specs.Groups.{between, rows_alone}
use Rattle.pig_operators.proofs.Adding.{fields_more}
use Rattle.pig_operators.proofs.cogrouping.lone_row.Goals as goal

pub loop-i-preserved : goal.loop-i-preserved
loop-i-preserved c =
    fields_more (tree c.args.key.now) (rows_alone c.args.input (map (λ e. e.row) (between c.args.own.now.from c.args.own.now.end c.args.own.now.run.now.entries))) c.loop-i.i c.loop-i.row c.push-in-loop-i.new.self c.in_ok-rows_where.field-0
    c.in_ok-rows_where.ensures c.loop-i.invariant c.in_ok-push-2.ensures.ok
