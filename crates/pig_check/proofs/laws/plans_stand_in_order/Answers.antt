use Rattle.pig_check.proofs.InOrder.{in_statement_order}
use Rattle.pig_check.proofs.laws.plans_stand_in_order.Goals as goal

pub returns : goal.returns
returns c = λ ss plan is. in_statement_order is
