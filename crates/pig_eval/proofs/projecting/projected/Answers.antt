use Rattle.std.proofs.Common.{sym, ◌∙◌, ap, ◌≡◌}
use Rattle.std.proofs.lemmas.Result.{IfOk-weaker}
use Rattle.pig_value.specs.Trees.{tree}
use Rattle.pig_typed.specs.Operators.{project_tree}
use Rattle.pig_eval.proofs.Projections.{of_bag, of_listed, of_tuple}
use Rattle.pig_eval.proofs.projecting.projected.Goals as goal

pub returns-in-Tuple : goal.returns-in-Tuple
returns-in-Tuple c =
    IfOk-weaker c.part_of_tuple.result _ (λ w. tree w ≡ project_tree c.args.fields.now c.args.single (tree c.args.v.now))
    (λ w same. same ∙ sym (ap (λ v. project_tree c.args.fields.now c.args.single (tree v)) c.in-Tuple.is ∙ of_tuple c.args.fields.now c.args.single c.in-Tuple.row)) c.part_of_tuple.ensures

pub returns-in-Bag : goal.returns-in-Bag
returns-in-Bag c =
    IfOk-weaker c.part_of_bag.result _ (λ w. tree w ≡ project_tree c.args.fields.now c.args.single (tree c.args.v.now))
    (λ w same. same ∙ sym (ap (λ v. project_tree c.args.fields.now c.args.single (tree v)) c.in-Bag.is ∙ of_bag c.args.fields.now c.args.single c.in-Bag.rows)) c.part_of_bag.ensures

pub returns-in-Listed : goal.returns-in-Listed
returns-in-Listed c =
    IfOk-weaker c.part_of_listed.result _ (λ w. tree w ≡ project_tree c.args.fields.now c.args.single (tree c.args.v.now))
    (λ w same. same ∙ sym (ap (λ v. project_tree c.args.fields.now c.args.single (tree v)) c.in-Listed.is ∙ of_listed c.args.fields.now c.args.single c.in-Listed.rows)) c.part_of_listed.ensures
