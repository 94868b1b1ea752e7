use Rattle.std.proofs.lemmas.Result.{on_ok_weaker}
use Rattle.pig_value.specs.Trees.{rows_tree, tree}
use Rattle.pig_operators.proofs.Apart.{lone_added, lone_none}
use Rattle.pig_operators.proofs.cogrouping.add_lone.Goals as goal

pub returns-then-has_own_row : goal.returns-then-has_own_row
returns-then-has_own_row c =
    on_ok_weaker c.push.result
    (lone_added (λ e. e.row) c.args.own.now.run.now.entries c.args.inner.now (tree c.args.key.now) c.args.input c.args.own.now.from c.args.own.now.end c.args.own.now.order c.args.own.now.within c.has_own_row.result c.has_own_row.ensures c.if-has_own_row.true
    c.args.rows.now c.push.new.self c.in_ok-lone_row.field-0 c.in_ok-lone_row.ensures)
    c.push.ensures.ok

pub returns : goal.returns
returns c =
    lone_none (λ e. e.row) c.args.own.now.run.now.entries c.args.inner.now (tree c.args.key.now) c.args.input c.args.own.now.from c.args.own.now.end c.args.own.now.order c.args.own.now.within c.has_own_row.result c.has_own_row.ensures c.if-has_own_row.false
    (rows_tree c.args.rows.now)
