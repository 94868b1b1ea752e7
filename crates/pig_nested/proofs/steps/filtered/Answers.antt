use Rattle.std.proofs.Common.{◌≡◌, ◌∙◌, ap, sym}
use Rattle.std.specs.List.{filter}
use Rattle.std.proofs.lemmas.Result.{IfOk-weaker}
use Rattle.pig_value.specs.Trees.{tree}
use Rattle.pig_typed.specs.Blocks.{on_rows}
use Rattle.pig_typed.specs.Evaluation.{passes}
use Rattle.pig_typed.specs.Typed.{typed}
use Rattle.pig_nested.proofs.Forms.{on_bag, on_listed}
use Rattle.pig_nested.proofs.steps.filtered.Goals as goal

pub returns-in-Bag : goal.returns-in-Bag
returns-in-Bag c =
    let kept = filter (passes (typed c.args.cond.now)) in
    IfOk-weaker c.filtered_bag.result _ (λ v. tree v ≡ on_rows (filter (passes (typed c.args.cond.now))) (tree c.args.from.now))
    (λ v same. same ∙ sym (ap (λ w. on_rows kept (tree w)) c.in-Bag.is ∙ on_bag kept c.in-Bag.rows)) c.filtered_bag.ensures

pub returns-in-Listed : goal.returns-in-Listed
returns-in-Listed c =
    let kept = filter (passes (typed c.args.cond.now)) in
    IfOk-weaker c.filtered_listed.result _ (λ v. tree v ≡ on_rows (filter (passes (typed c.args.cond.now))) (tree c.args.from.now))
    (λ v same. same ∙ sym (ap (λ w. on_rows kept (tree w)) c.in-Listed.is ∙ on_listed kept c.in-Listed.rows)) c.filtered_listed.ensures
