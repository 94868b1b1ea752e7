use Rattle.std.proofs.Common.{rules, ◌≡◌, ap, map, subst, true}
use Rattle.std.specs.Prelude.{refl, slice_set}
use Rattle.pig_plan.specs.declared.nodes.Node.{Node}
use Rattle.pig_plan.specs.declared.nodes.NodeOp.TheVariants as op
use Rattle.pig_plan.specs.Nodes.{IsOnlyUse}
use Rattle.pig_plan.specs.Plans.{op_of, plan_of}
use Rattle.pig_plan.specs.Valid.{IsPlan}
use Rattle.pig_typed.specs.Typed.{typed}
use Rattle.pig_moves.specs.Pushed.{CanUniteAs, filter_on, one_union, put_from, reads_nothing}
use Rattle.pig_moves.proofs.Keeps.{node_with}
use Rattle.pig_moves.proofs.Unites.{is_united}
use Rattle.pig_push.proofs.uniting.over_each.Goals as goal

pub exchange-requires : goal.exchange-requires
exchange-requires c =
    let same : c.as_slice.result.now ≡ c.in_ok-next.next = search rules in
    let only_is : c.is_only_use.result ≡ true = search rules in
    record { only = subst (λ ns. IsOnlyUse (plan_of ns) c.in_ok-low.field-0.low c.args.high) same (c.is_only_use.ensures.yes only_is) }

pub returns : goal.returns
returns c = λ before moves.
    let gone : Node = record { op = c.in_ok-op.op; statement = 0 } in
    let over : Node = record { op = op.Union c.in_ok-low.numbers; statement = c.in_ok-low.own } in
    let can : CanUniteAs (plan_of c.args.plan) c.in_ok-low.low c.args.high c.args.first c.args.each.now c.in_ok-low.numbers (typed c.in_ok-low.cond) c.in_ok-low.own c.in_ok-low.statement = search rules in
    let filters : plan_of c.in_ok-next.next ≡ put_from c.args.first (map (filter_on (typed c.in_ok-low.cond) c.in_ok-low.statement) c.args.each.now) (plan_of c.args.plan) = search rules in
    let is : c.exchange.new.self ≡ slice_set (slice_set c.in_ok-next.next c.in_ok-low.low gone) c.args.high over = search rules in
    let nothing : reads_nothing (op_of c.in_ok-op.op) = search rules in
    let valid : IsPlan (plan_of c.exchange.new.self) = search rules in
    one_union (plan_of c.args.plan) (plan_of c.exchange.new.self) c.in_ok-low.low c.args.high moves valid
    (is_united c.args.plan c.in_ok-next.next c.exchange.new.self (plan_of c.exchange.new.self) c.in_ok-low.low c.args.high c.args.first c.in_ok-low.own c.in_ok-low.statement c.args.each.now c.in_ok-low.numbers
    (typed c.in_ok-low.cond) gone over can filters is (ap (λ o. node_with o 0) nothing) refl refl)
