use Rattle.std.proofs.Common.{◌++◌, sym, ◌∙◌, ap}
use Rattle.std.proofs.lemmas.Result.{on_ok_weaker}
use Rattle.pig_value.specs.Trees.{rows_tree, tree}
use Rattle.pig_operators.proofs.Sides.{outer_with, outer_without}
use Rattle.pig_operators.proofs.outer.add_outer.Goals as goal

pub returns-then-have_partners : goal.returns-then-have_partners
returns-then-have_partners c =
    on_ok_weaker c.add_partners.result
    (λ is. is
    ∙ ap (λ l. rows_tree c.args.rows.now ++ l)
    (sym (outer_with c.args.group.now.run.now c.args.group.now.from c.args.group.now.end c.sides-middle.result.0 c.sides-middle.result.1 c.sides-middle.ensures c.args.side c.args.left c.args.right (tree c.args.key.now) c.have_partners.result c.have_partners.ensures
    c.if-have_partners.true)))
    c.add_partners.ensures

pub returns : goal.returns
returns c =
    on_ok_weaker c.add_right.result
    (outer_without c.args.group.now.run.now c.args.group.now.from c.args.group.now.end c.sides-middle.result.0 c.sides-middle.result.1 c.sides-middle.ensures c.args.side c.args.left c.args.right (tree c.args.key.now) c.have_partners.result c.have_partners.ensures
    c.if-have_partners.false c.left_stays.result c.right_stays.result c.left_stays.ensures c.right_stays.ensures (rows_tree c.args.rows.now) (rows_tree c.add_left.new.rows) (rows_tree c.add_right.new.rows) c.in_ok-add_left.ensures)
    c.add_right.ensures
