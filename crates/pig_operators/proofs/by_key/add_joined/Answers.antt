use Rattle.std.proofs.Common.{◌++◌, sym, ◌∙◌, ap}
use Rattle.std.proofs.lemmas.Result.{on_ok_weaker}
use Rattle.pig_value.specs.Trees.{rows_tree, tree}
use Rattle.pig_operators.specs.Groups.{bags_at}
use Rattle.pig_operators.proofs.Products.{join_is}
use Rattle.pig_operators.proofs.by_key.add_joined.Goals as goal

pub returns : goal.returns
returns c =
    on_ok_weaker c.add_partners.result
    (λ is. is ∙ ap (λ l. rows_tree c.args.rows.now ++ l) (sym (join_is c.args.inputs (tree c.args.key.now) (bags_at c.args.group.now.run.now c.args.group.now.from c.args.group.now.end) (sym c.has_null.ensures ∙ c.if-has_null.false)))) c.add_partners.ensures
