use Rattle.std.proofs.Common.{rules, ◌≡◌, ◌<◌, ◌-◌, length, arith}
use Rattle.pig_moves.proofs.Steps.{NoMove, none_at_all, one_before}
use Rattle.pig_push.proofs.finding.find_part.Goals as goal

pub loop-behind-preserved : goal.loop-behind-preserved
loop-behind-preserved c =
    let here : NoMove c.args.plan.now (c.in_ok-count.count - 1 - c.loop-behind.behind) = c.in_ok-parts.ensures c.if-parts.false c.requires in
    let within : c.loop-behind.behind < c.in_ok-count.count = search rules in
    one_before c.args.plan.now c.in_ok-count.count c.loop-behind.behind within c.loop-behind.invariant here

pub returns : goal.returns
returns c =
    let whole : c.in_ok-count.count ≡ length c.args.plan.now = search rules in
    let all : c.loop-behind.behind ≡ c.in_ok-count.count = search rules in
    none_at_all c.args.plan.now c.in_ok-count.count whole (λ k less. c.loop-behind.invariant k (omega (arith, all)) less)
