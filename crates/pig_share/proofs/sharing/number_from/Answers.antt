use Rattle.std.proofs.Common.{rules, ◌<◌}
use Rattle.pig_plan.specs.Plans.{plan_of}
use Rattle.pig_share.proofs.Finding.{found_earlier}
use Rattle.pig_share.proofs.sharing.number_from.Goals as goal

pub returns-then-does_same : goal.returns-then-does_same
returns-then-does_same c =
    let before : c.args.first < c.args.own = search rules in
    found_earlier (plan_of c.args.nodes.now) c.args.table.now c.args.own c.args.first c.number_at.result before (c.does_same.ensures.yes c.if-does_same.true) c.number_at.ensures
