use Rattle.pig_run.proofs.Deciding.{some_due}
use Rattle.pig_run.proofs.OneDecision.{one_decision}
use Rattle.pig_run.proofs.Readings.{PlanLaws}
use Rattle.pig_run.proofs.top.one_verdict.Goals as goal

pub returns-clause-some : goal.returns-clause-some
returns-clause-some c =
    let law = c.a_script_has_one_plan.ensures in
    let laws : PlanLaws = record { one = law.one; some = law.some; never_both = law.never_both; one_statement = law.one_statement } in
    some_due laws

pub returns-clause-one : goal.returns-clause-one
returns-clause-one c =
    let law = c.a_script_has_one_plan.ensures in
    let laws : PlanLaws = record { one = law.one; some = law.some; never_both = law.never_both; one_statement = law.one_statement } in
    one_decision laws
