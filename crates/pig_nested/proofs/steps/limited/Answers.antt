use Rattle.std.proofs.Common.{take}
use Rattle.pig_nested.proofs.Forms.{bag_step, listed_step}
use Rattle.pig_nested.proofs.steps.limited.Goals as goal

pub returns-in_ok-first-in-Bag : goal.returns-in_ok-first-in-Bag
returns-in_ok-first-in-Bag c =
    bag_step (take c.args.count) c.args.from.now c.in-Bag.rows c.in_ok-first-in-Bag.field-0 c.in-Bag.is c.in_ok-first-in-Bag.ensures

pub returns-in_ok-first-in-Listed : goal.returns-in_ok-first-in-Listed
returns-in_ok-first-in-Listed c =
    listed_step (take c.args.count) c.args.from.now c.in-Listed.rows c.in_ok-first-in-Listed.field-0 c.in-Listed.is c.in_ok-first-in-Listed.ensures
