use Rattle.std.proofs.Common.{subst, sym}
use Rattle.std.proofs.lemmas.Option.{IfSome_then}
use Rattle.std.proofs.lemmas.Result.{IfOk-weaker}
use Rattle.pig_map.specs.Making.{FormBy}
use Rattle.pig_map.specs.Working.{HandsOn, prior_of, stages_of}
use Rattle.pig_map.proofs.lent.lent_out.Goals as goal

pub returns-in-Text : goal.returns-in-Text
returns-in-Text c =
    let work = c.args.work.now in
    IfOk-weaker c.lent_text.result _ _
    (λ found some. IfSome_then found some (λ out has told op i.
    subst (λ handing. HandsOn work told (λ rows form. FormBy (stages_of work) (prior_of work) work.task.now.node op i rows form handing) out) (sym c.in-Text.is) (has told)))
    c.lent_text.ensures

pub returns-in-First : goal.returns-in-First
returns-in-First c =
    let work = c.args.work.now in
    IfOk-weaker c.lent_first.result _ _
    (λ found some. IfSome_then found some (λ out has told op i.
    subst (λ handing. HandsOn work told (λ rows form. FormBy (stages_of work) (prior_of work) work.task.now.node op i rows form handing) out) (sym c.in-First.is) (has told)))
    c.lent_first.ensures
