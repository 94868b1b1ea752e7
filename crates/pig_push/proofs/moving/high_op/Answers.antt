use Rattle.std.proofs.Common.{rules, subst, ◌≡◌}
use Rattle.std.specs.Prelude.{IfOk, map}
use Rattle.pig_plan.specs.Meaning.{width_at}
use Rattle.pig_plan.specs.Plans.{keyed_of, op_of, p_group, plan_of}
use Rattle.pig_typed.specs.Typed.{typed}
use Rattle.pig_moves.specs.Pushed.{high_of}
use Rattle.pig_push.proofs.moving.high_op.Goals as goal

pub returns-in-Group : goal.returns-in-Group
returns-in-Group c =
    let width = width_at (plan_of c.args.plan.now) in
    let is : p_group (map keyed_of c.as_slice.result.now) ≡ op_of c.args.op.now = search rules in
    subst (λ o. IfOk c.groups_over.result (λ made. op_of made ≡ high_of width c.args.low o (typed c.args.cond.now))) is
    (c.groups_over.ensures width (typed c.args.cond.now))
