use Rattle.std.proofs.Common.{rules}
use Rattle.pig_typed.specs.Premises.{FunctionsKeepKinds}
use Rattle.pig_plan.specs.Plans.{plan_of}
use Rattle.pig_plan.specs.Valid.{IsPlan}
use Rattle.pig_moves.specs.Pushed.{IsCleared}
use Rattle.pig_moves.proofs.Depths.{shallow_pushed}
use Rattle.pig_moves.proofs.Steps.{all_pushed, means_pushed}
use Rattle.pig_moves.proofs.Tidy.{cleared_tidy}
use Rattle.pig_push.proofs.pushing.push.Goals as goal

pub move_all-requires : goal.move_all-requires
move_all-requires c =
    let valid : IsPlan (plan_of c.args.plan) = search rules in
    let valid_q : IsPlan (plan_of c.in_ok-begun.begun) = search rules in
    let is : IsCleared (plan_of c.args.plan) (plan_of c.in_ok-begun.begun) = search rules in
    record { valid = valid_q; tidy = cleared_tidy (plan_of c.args.plan) (plan_of c.in_ok-begun.begun) valid valid_q is }

pub returns-clause-pushed : goal.returns-clause-pushed
returns-clause-pushed c =
    let valid_q : IsPlan (plan_of c.in_ok-begun.begun) = search rules in
    let is : IsCleared (plan_of c.args.plan) (plan_of c.in_ok-begun.begun) = search rules in
    all_pushed c.move_all.result (plan_of c.args.plan) (plan_of c.in_ok-begun.begun) valid_q is c.move_all.ensures.moves

pub returns-clause-means : goal.returns-clause-means
returns-clause-means c =
    let valid : IsPlan (plan_of c.args.plan) = search rules in
    let functions : FunctionsKeepKinds = search rules in
    means_pushed functions c.move_all.result (plan_of c.args.plan) valid (returns-clause-pushed c)

pub returns-clause-shallow : goal.returns-clause-shallow
returns-clause-shallow c = shallow_pushed c.move_all.result (plan_of c.args.plan) (returns-clause-pushed c)
