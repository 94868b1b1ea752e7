use Rattle.std.proofs.Common.{rules, ◌≡◌, ◌∙◌, ap, false, subst, sym, true}
use Rattle.std.specs.Prelude.{IfOk}
use Rattle.pig_typed.specs.Typed.{typed}
use Rattle.pig_plan.specs.Meaning.{width_at}
use Rattle.pig_plan.specs.Plans.{op_of, plan_of}
use Rattle.pig_moves.specs.Pushed.{is_union, some_pass}
use Rattle.pig_moves.proofs.Steps.{any_true, no_union_passes, none_pass, union_passes}
use Rattle.pig_push.proofs.finding.some_pass.Goals as goal

pub returns-in-Filter : goal.returns-in-Filter
returns-in-Filter c = sym (ap (λ o. some_pass (width_at (plan_of c.args.plan.now)) (op_of o) (typed c.args.cond.now)) c.in-Filter.is ∙ any_true (typed c.args.cond.now))

pub returns-in-Distinct : goal.returns-in-Distinct
returns-in-Distinct c = sym (ap (λ o. some_pass (width_at (plan_of c.args.plan.now)) (op_of o) (typed c.args.cond.now)) c.in-Distinct.is ∙ any_true (typed c.args.cond.now))

pub returns-then-not-is_ever_passed : goal.returns-then-not-is_ever_passed
returns-then-not-is_ever_passed c =
    let other : is_union (op_of c.args.op.now) ≡ false = search rules in
    let no : c.is_ever_passed.result ≡ false = search rules in
    sym (none_pass (width_at (plan_of c.args.plan.now)) (op_of c.args.op.now) (typed c.args.cond.now) other (λ e. c.is_ever_passed.ensures no (width_at (plan_of c.args.plan.now)) e))

pub returns-then-union : goal.returns-then-union
returns-then-union c =
    let is : is_union (op_of c.args.op.now) ≡ true = search rules in
    sym (union_passes (width_at (plan_of c.args.plan.now)) (op_of c.args.op.now) (typed c.args.cond.now) is)

pub returns : goal.returns
returns c =
    let other : is_union (op_of c.args.op.now) ≡ false = search rules in
    subst (λ passes. IfOk c.one_passes.result (λ b. b ≡ passes)) (no_union_passes (width_at (plan_of c.args.plan.now)) (op_of c.args.op.now) (typed c.args.cond.now) other) c.one_passes.ensures
