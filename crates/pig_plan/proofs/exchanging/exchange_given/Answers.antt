use Rattle.std.proofs.Common.{rules, ◌≡◌, ◌<◌, length, take}
use Rattle.std.specs.Prelude.{Some}
use Rattle.pig_plan.specs.Given.{before_of, kinds_of_given}
use Rattle.pig_plan.specs.NodeKinds.{node_gives}
use Rattle.pig_plan.specs.Plans.{op_of}
use Rattle.pig_plan.proofs.Exchanged.{given_for, none_given}
use Rattle.pig_plan.proofs.exchanging.exchange_given.Goals as goal

pub returns-clause-yes : goal.returns-clause-yes
returns-clause-yes c =
    let below : c.args.low < c.args.high = search rules in
    let within : c.args.high < length c.args.given.now.items = search rules in
    let told : Some (kinds_of_given c.in-Some.first) ≡ node_gives (before_of (take c.args.low c.args.given.now.items)) (op_of c.args.lower.now) = search rules in
    given_for c.args.given.now.items c.put_where.new.given.items c.args.low c.args.high (op_of c.args.lower.now) (op_of c.args.upper.now) c.in-Some.first below within told
    c.put_where.result c.put_where.ensures.put c.put_where.ensures.gives

pub returns-clause-refused : goal.returns-clause-refused
returns-clause-refused c =
    let told : Some (kinds_of_given c.in-Some.first) ≡ node_gives (before_of (take c.args.low c.args.given.now.items)) (op_of c.args.lower.now) = search rules in
    none_given c.args.given.now.items c.args.low c.args.high (op_of c.args.lower.now) (op_of c.args.upper.now) c.in-Some.first c.put_where.result told c.put_where.ensures.refused
