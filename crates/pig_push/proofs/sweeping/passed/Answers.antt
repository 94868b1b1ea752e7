use Rattle.std.proofs.Common.{rules}
use Rattle.pig_plan.specs.Plans.{plan_of}
use Rattle.pig_plan.specs.Valid.{IsPlan}
use Rattle.pig_moves.specs.Pushed.{IsMove}
use Rattle.pig_push.specs.Lone.{CountedOn}
use Rattle.pig_push.proofs.LoneMoves.{steps_by_move}
use Rattle.pig_push.proofs.sweeping.passed.Goals as goal

pub returns-clause-steps : goal.returns-clause-steps
returns-clause-steps c =
    let valid : IsPlan (plan_of c.args.plan) = search rules in
    let valid_q : IsPlan (plan_of c.in_ok-next.next) = search rules in
    let move : IsMove (plan_of c.args.plan) (plan_of c.in_ok-next.next) c.args.low c.args.high = search rules in
    let counted : CountedOn (plan_of c.in_ok-next.next) c.args.counts.items c.in_ok-counts.counts.items c.args.low c.args.high = search rules in
    steps_by_move (plan_of c.args.plan) (plan_of c.in_ok-next.next) valid valid_q c.args.low c.args.high move c.args.counts.items c.in_ok-counts.counts.items c.requires.sound counted
