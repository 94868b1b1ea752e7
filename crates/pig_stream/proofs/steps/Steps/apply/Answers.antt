use Rattle.std.proofs.Common.{◌∙◌, ap, length, sym, subst}
use Rattle.std.proofs.lemmas.Result.{on_ok_weaker}
use Rattle.pig_value.specs.Valid.{AreRows}
use Rattle.pig_stream.specs.Stepping.{folding_on, path_on, plan_on}
use Rattle.pig_stream.specs.Unmet.{either_of, fails_on}
use Rattle.pig_stream.proofs.Joining.{fails_joined, fails_length, through_values}
use Rattle.pig_stream.proofs.steps.Steps.apply.Goals as goal

pub returns-clause-values : goal.returns-clause-values
returns-clause-values c = λ literals good.
    let s = c.args.self.now in
    on_ok_weaker c.take_through.result
    (λ is. subst AreRows (sym is) (through_values (folding_on s) (plan_on s) (path_on s) c.args.batch.now literals good))
    c.take_through.ensures.rows

pub returns-clause-noted : goal.returns-clause-noted
returns-clause-noted c = λ seen noted.
    let s = c.args.self.now in
    let more = fails_on (folding_on s) (plan_on s) (path_on s) c.args.batch.now in
    on_ok_weaker c.take_through.result
    (λ is. is ∙ ap (λ marks. either_of marks more) noted ∙ fails_joined (folding_on s) (plan_on s) (path_on s) seen c.args.batch.now)
    (c.take_through.ensures.marks (ap length noted ∙ fails_length (folding_on s) (plan_on s) (path_on s) seen))
