use Rattle.std.proofs.Common.{rules, subst, ◌≡◌}
use Rattle.std.specs.Prelude.{IfOk, map}
use Rattle.pig_plan.specs.Meaning.{width_at}
use Rattle.pig_plan.specs.Plans.{keyed_of, op_of, p_group, plan_of}
use Rattle.pig_typed.specs.Typed.{typed}
use Rattle.pig_moves.specs.Pushed.{low_of}
use Rattle.pig_push.proofs.moving.low_op.Goals as goal

pub returns-in-Group-clause-is : goal.returns-in-Group-clause-is
returns-in-Group-clause-is c =
    let width = width_at (plan_of c.args.plan.now) in
    let is : p_group (map keyed_of c.as_slice-in-Group.result.now) ≡ op_of c.args.op.now = search rules in
    subst (λ o. IfOk c.below_groups.result (λ made. op_of made ≡ low_of width o (typed c.args.cond.now))) is (c.below_groups.ensures.is width)
