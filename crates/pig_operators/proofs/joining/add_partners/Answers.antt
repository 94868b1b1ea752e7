use Rattle.std.proofs.Common.{◌∙◌, ap, map}
use Rattle.std.specs.List.{range_with_len}
use Rattle.std.proofs.lemmas.Result.{on_ok_weaker}
use Rattle.pig_value.specs.Trees.{rows_tree}
use Rattle.pig_plan.specs.ByKey.{rows_of}
use Rattle.pig_operators.specs.Groups.{group_entries}
use Rattle.pig_operators.proofs.Products.{products_added}
use Rattle.pig_operators.proofs.Singles.{alone_added}
use Rattle.pig_operators.proofs.joining.add_partners.Goals as goal

pub returns-then-has_one_each : goal.returns-then-has_one_each
returns-then-has_one_each c =
    on_ok_weaker c.push.result
    (alone_added c.args.group.now.run.now c.args.group.now.from c.args.group.now.end c.args.inputs c.args.group.now.whole.within (c.has_one_each.ensures c.if-has_one_each.true) c.args.rows.now c.push.new.self c.in_ok-one_row.field-0 c.in_ok-one_row.ensures) c.push.ensures.ok

pub returns : goal.returns
returns c =
    let rows = rows_of (group_entries c.args.group.now.run.now c.args.group.now.from c.args.group.now.end) in
    on_ok_weaker c.add_products.result
    (products_added _ c.as_slice.result.now (map rows (range_with_len 0 c.args.inputs)) (rows_tree c.args.rows.now) (rows_tree c.add_products.new.rows) c.new.ensures (ap (map rows_tree) c.as_slice.ensures ∙ c.in_ok-parts.ensures))
    c.add_products.ensures
