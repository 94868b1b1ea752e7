use Rattle.std.proofs.Common.{◌∙◌, ap, sym}
use Rattle.pig_typed.specs.Typed.{typed}
use Rattle.pig_plan.specs.Meaning.{width_at}
use Rattle.pig_plan.specs.Plans.{op_of, plan_of}
use Rattle.pig_moves.specs.Pushed.{all_pass}
use Rattle.pig_moves.proofs.Steps.{distinct_passes, filter_passes}
use Rattle.pig_push.proofs.finding.all_pass.Goals as goal

pub returns-in-Filter : goal.returns-in-Filter
returns-in-Filter c = sym (ap (λ o. all_pass (width_at (plan_of c.args.plan.now)) (op_of o) (typed c.args.cond.now)) c.in-Filter.is ∙ filter_passes (width_at (plan_of c.args.plan.now)) c.in-Filter.input (typed c.in-Filter.cond) (typed c.args.cond.now))

pub returns-in-Distinct : goal.returns-in-Distinct
returns-in-Distinct c = sym (ap (λ o. all_pass (width_at (plan_of c.args.plan.now)) (op_of o) (typed c.args.cond.now)) c.in-Distinct.is ∙ distinct_passes (width_at (plan_of c.args.plan.now)) c.in-Distinct.input (typed c.args.cond.now))
