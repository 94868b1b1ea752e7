use Rattle.pig_value.specs.Orders.{row_cmp}
use Rattle.pig_value.specs.Sorts.{distinct}
use Rattle.pig_nested.proofs.Forms.{bag_from_bag, bag_from_listed}
use Rattle.pig_nested.proofs.steps.reduced_lent.Goals as goal

pub returns-in_ok-copied_once-in-Bag : goal.returns-in_ok-copied_once-in-Bag
returns-in_ok-copied_once-in-Bag c =
    bag_from_bag (distinct row_cmp) c.args.from.now c.in-Bag.rows c.in_ok-copied_once-in-Bag.field-0 c.in-Bag.is c.in_ok-copied_once-in-Bag.ensures

pub returns-in_ok-copied_once-in-Listed : goal.returns-in_ok-copied_once-in-Listed
returns-in_ok-copied_once-in-Listed c =
    bag_from_listed (distinct row_cmp) c.args.from.now c.in-Listed.rows c.in_ok-copied_once-in-Listed.field-0 c.in-Listed.is c.in_ok-copied_once-in-Listed.ensures
