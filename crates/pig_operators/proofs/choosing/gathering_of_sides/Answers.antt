use Rattle.pig_plan.specs.Meaning.{width_at}
use Rattle.pig_plan.specs.Plans.{plan_of}
use Rattle.pig_operators.proofs.Keying.{outer_at}
use Rattle.pig_operators.proofs.choosing.gathering_of_sides.Goals as goal

pub returns-in-len2-up : goal.returns-in-len2-up
returns-in-len2-up c =
    outer_at c.args.side (width_at (plan_of c.args.plan.now)) c.args.inputs.now c.left-item.result c.right-item.result c.in-len2-up.len_at_least c.left-item.is c.right-item.is
    c.width.result c.width-in-len2-up.result c.width.ensures c.width-in-len2-up.ensures
