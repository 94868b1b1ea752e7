use Rattle.std.proofs.Common.{rules, ◌≡◌}
use Rattle.std.specs.Prelude.{refl, slice_set}
use Rattle.pig_plan.specs.declared.nodes.Node.{Node}
use Rattle.pig_plan.specs.declared.nodes.NodeOp.TheVariants as op
use Rattle.pig_plan.specs.Plans.{node_of, plan_of}
use Rattle.pig_typed.specs.Typed.{typed}
use Rattle.pig_moves.specs.Pushed.{IsAbove}
use Rattle.pig_moves.proofs.Unites.{filter_put}
use Rattle.pig_push.proofs.uniting.with_filter.Goals as goal

pub exchange-requires : goal.exchange-requires
exchange-requires c =
    let above : IsAbove (plan_of c.args.plan) c.args.number c.args.high (node_of c.in_ok-above.above) = search rules in
    record { only = above.unread }

pub returns : goal.returns
returns c =
    let made : Node = record { op = op.Filter c.args.input c.in_ok-cond.cond; statement = c.args.statement } in
    let above : IsAbove (plan_of c.args.plan) c.args.number c.args.high (node_of c.in_ok-above.above) = search rules in
    let is : c.exchange.new.self ≡ slice_set (slice_set c.args.plan c.args.number made) c.args.high c.in_ok-above.above = search rules in
    let same : typed c.in_ok-cond.cond ≡ typed c.args.cond.now = search rules in
    filter_put c.args.plan c.exchange.new.self c.args.number c.args.high c.args.input c.args.statement made c.in_ok-above.above (typed c.args.cond.now) (typed c.in_ok-cond.cond) above is refl same
