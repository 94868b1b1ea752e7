use Rattle.std.proofs.Common.{rules}
use Rattle.pig_plan.specs.Plans.{plan_of}
use Rattle.pig_share.proofs.Finding.{found_earlier, found_none}
use Rattle.pig_share.proofs.sharing.number_of_any.Goals as goal

pub returns-then-does_same : goal.returns-then-does_same
returns-then-does_same c =
    found_earlier (plan_of c.args.nodes.now) c.args.table.now c.args.own c.loop-j.j c.number_at.result (search rules) (c.does_same.ensures.yes c.if-does_same.true) c.number_at.ensures

pub returns : goal.returns
returns c = found_none (plan_of c.args.nodes.now) c.args.table.now c.args.own c.loop-j.j (search rules) c.loop-j.invariant
