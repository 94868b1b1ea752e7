use Rattle.std.proofs.Common.{rules, ◌≡◌, ◌+◌, ◌<◌, length}
use Rattle.std.specs.Prelude.{refl, slice_set}
use Rattle.pig_plan.specs.declared.nodes.Node.{Node}
use Rattle.pig_plan.specs.declared.nodes.NodeOp.TheVariants as op
use Rattle.pig_plan.specs.Plans.{plan_of}
use Rattle.pig_plan.specs.Room.{roomy}
use Rattle.pig_plan.specs.Valid.{IsPlan}
use Rattle.pig_typed.specs.Typed.{typed}
use Rattle.pig_moves.specs.Pushed.{ArePartsOf}
use Rattle.pig_moves.proofs.Splits.{parted, room_unread}
use Rattle.pig_push.proofs.splitting.split.Goals as goal

pub exchange-requires : goal.exchange-requires
exchange-requires c =
    let within : c.args.number < length c.args.plan = search rules in
    let room : plan_of c.in_ok-next.next ≡ roomy c.args.number (plan_of c.args.plan) = search rules in
    record { only = room_unread c.args.plan c.in_ok-next.next c.args.number c.in_ok-upper.upper within room }

pub returns : goal.returns
returns c =
    let low : Node = record { op = op.Filter c.in_ok-input.input c.in_ok-input.low; statement = c.in_ok-input.statement } in
    let high : Node = record { op = op.Filter c.args.number c.in_ok-input.high; statement = c.in_ok-input.statement } in
    let parts : ArePartsOf (plan_of c.args.plan) c.args.number c.in_ok-input.input c.in_ok-input.statement (typed c.in_ok-input.low) (typed c.in_ok-input.high) = search rules in
    let room : plan_of c.in_ok-next.next ≡ roomy c.args.number (plan_of c.args.plan) = search rules in
    let valid : IsPlan (plan_of c.in_ok-next.next) = search rules in
    let next : c.in_ok-upper.upper ≡ c.args.number + 1 = search rules in
    let is : c.exchange.new.self ≡ slice_set (slice_set c.in_ok-next.next c.args.number low) c.in_ok-upper.upper high = search rules in
    parted c.args.plan c.in_ok-next.next c.exchange.new.self c.args.number c.in_ok-upper.upper low high c.in_ok-input.input c.in_ok-input.statement
    (typed c.in_ok-input.low) (typed c.in_ok-input.high) parts room valid next refl refl is
