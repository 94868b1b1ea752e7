use Rattle.std.proofs.Common.{◌≡◌, ◌∙◌, ap}
use Rattle.std.proofs.lemmas.Result.{IfOk-weaker}
use Rattle.pig_stream.specs.Stepping.{folding_on, path_on, plan_on, unmet_by}
use Rattle.pig_stream.specs.Unmet.{marked}
use Rattle.pig_stream.proofs.Joining.{marked_is}
use Rattle.pig_stream.proofs.steps.Steps.unmet.Goals as goal

pub returns : goal.returns
returns c = λ rows noted.
    let s = c.args.self.now in
    IfOk-weaker c.marked_of.result _ (λ unmet. unmet ≡ unmet_by s rows)
    (λ unmet is. is ∙ ap (marked (plan_on s) (path_on s)) (c.as_slice.ensures.value ∙ noted) ∙ marked_is (folding_on s) (plan_on s) (path_on s) rows)
    c.marked_of.ensures
