use Rattle.std.proofs.Common.{rules, ◌≡◌, subst, sym, false, true}
use Rattle.pig_plan.proofs.Exchanged.{exchanged, high_within, low_within, may_be_given}
use Rattle.pig_plan.specs.Exchanged.{MayExchange, MayStand}
use Rattle.pig_plan.specs.Nodes.{IsOnlyUse}
use Rattle.pig_plan.specs.Plans.{node_of, op_of, plan_of}
use Rattle.pig_plan.proofs.plan.Plan.exchange.Goals as goal

pub put_two-requires-clause-low : goal.put_two-requires-clause-low
put_two-requires-clause-low c =
    let did : c.in_ok-fit.fit ≡ true = search rules in
    low_within c.self.inside.nodes c.self.inside.given.items c.exchange_given.new.given.items c.args.low c.args.high (op_of c.args.lower.op) (op_of c.args.upper.op) c.self.invariant.1
    (c.in_ok-fit.ensures.yes did)

pub put_two-requires-clause-high : goal.put_two-requires-clause-high
put_two-requires-clause-high c =
    let did : c.in_ok-fit.fit ≡ true = search rules in
    high_within c.self.inside.nodes c.self.inside.given.items c.exchange_given.new.given.items c.args.low c.args.high (op_of c.args.lower.op) (op_of c.args.upper.op) c.self.invariant.1
    (c.in_ok-fit.ensures.yes did)

pub invariant_of-self-2 : goal.invariant_of-self-2
invariant_of-self-2 c =
    let did : c.in_ok-fit.fit ≡ true = search rules in
    let only : IsOnlyUse (plan_of c.self.inside.nodes) c.args.low c.args.high = subst (λ ns. IsOnlyUse (plan_of ns) c.args.low c.args.high) (sym c.self.view_is) c.requires.only in
    let lower_may : MayStand c.self.inside.latest (node_of c.args.lower) = search rules in
    let upper_may : MayStand c.self.inside.latest (node_of c.args.upper) = search rules in
    exchanged c.self.inside.nodes c.put_two.new.nodes c.self.inside.given.items c.exchange_given.new.given.items c.self.inside.latest c.args.low c.args.high c.args.lower c.args.upper
    c.self.invariant only lower_may upper_may c.know_literals.ensures c.know_literals-2.ensures (c.in_ok-fit.ensures.yes did) c.put_two.ensures

pub returns-then-not-may_stand-clause-refused : goal.returns-then-not-may_stand-clause-refused
returns-then-not-may_stand-clause-refused c =
    let no : c.may_stand.result ≡ false = search rules in
    λ e may.
    let here : MayExchange (plan_of c.self.inside.nodes) c.args.low (node_of c.args.lower) c.args.high (node_of c.args.upper) =
    subst (λ ns. MayExchange (plan_of ns) c.args.low (node_of c.args.lower) c.args.high (node_of c.args.upper)) (sym c.self.view_is) may in
    c.may_stand.ensures.no no (here.lower_stands c.self.inside.latest c.self.invariant.3)

pub returns-then-not-may_stand-2-clause-refused : goal.returns-then-not-may_stand-2-clause-refused
returns-then-not-may_stand-2-clause-refused c =
    let no : c.may_stand-2.result ≡ false = search rules in
    λ e may.
    let here : MayExchange (plan_of c.self.inside.nodes) c.args.low (node_of c.args.lower) c.args.high (node_of c.args.upper) =
    subst (λ ns. MayExchange (plan_of ns) c.args.low (node_of c.args.lower) c.args.high (node_of c.args.upper)) (sym c.self.view_is) may in
    c.may_stand-2.ensures.no no (here.upper_stands c.self.inside.latest c.self.invariant.3)

pub returns-then-not-fit-clause-refused : goal.returns-then-not-fit-clause-refused
returns-then-not-fit-clause-refused c =
    let no : c.in_ok-fit.fit ≡ false = search rules in
    λ e may.
    let here : MayExchange (plan_of c.self.inside.nodes) c.args.low (node_of c.args.lower) c.args.high (node_of c.args.upper) =
    subst (λ ns. MayExchange (plan_of ns) c.args.low (node_of c.args.lower) c.args.high (node_of c.args.upper)) (sym c.self.view_is) may in
    c.in_ok-fit.ensures.refused no
    (may_be_given c.self.inside.nodes c.self.inside.given.items c.args.low c.args.high (node_of c.args.lower) (node_of c.args.upper) c.self.invariant.1 here)
