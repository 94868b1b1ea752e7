use Rattle.std.proofs.Common.{◌≡◌, ◌∙◌, ap, sym}
use Rattle.std.proofs.lemmas.Result.{IfOk-weaker}
use Rattle.pig_value.specs.Trees.{tree}
use Rattle.pig_typed.specs.Blocks.{flattened}
use Rattle.pig_typed.specs.Products.{joined}
use Rattle.pig_nested.specs.Joinings.{joining_rows}
use Rattle.pig_nested.proofs.Forms.{flattened_bag, flattened_listed, flattened_tuple}
use Rattle.pig_nested.proofs.joining.with_flattened.Goals as goal

pub returns-in-Tuple : goal.returns-in-Tuple
returns-in-Tuple c =
    let given = ap (λ v. flattened c.args.width (tree v)) c.in-Tuple.is ∙ flattened_tuple c.args.width c.in-Tuple.fields in
    IfOk-weaker c.with_fields.result _ (λ made. joining_rows made ≡ joined (joining_rows c.args.joining) (flattened c.args.width (tree c.args.v.now)))
    (λ made same. same ∙ ap (joined (joining_rows c.args.joining)) (sym given)) c.with_fields.ensures

pub returns-in-Bag : goal.returns-in-Bag
returns-in-Bag c =
    let given = ap (λ v. flattened c.args.width (tree v)) c.in-Bag.is ∙ flattened_bag c.args.width c.in-Bag.rows in
    IfOk-weaker c.with_rows.result _ (λ made. joining_rows made ≡ joined (joining_rows c.args.joining) (flattened c.args.width (tree c.args.v.now)))
    (λ made same. same ∙ ap (joined (joining_rows c.args.joining)) (sym given)) c.with_rows.ensures

pub returns-in-Listed : goal.returns-in-Listed
returns-in-Listed c =
    let given = ap (λ v. flattened c.args.width (tree v)) c.in-Listed.is ∙ flattened_listed c.args.width c.in-Listed.rows in
    IfOk-weaker c.with_rows-in-Listed.result _ (λ made. joining_rows made ≡ joined (joining_rows c.args.joining) (flattened c.args.width (tree c.args.v.now)))
    (λ made same. same ∙ ap (joined (joining_rows c.args.joining)) (sym given)) c.with_rows-in-Listed.ensures
