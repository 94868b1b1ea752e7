use Rattle.pig_plan.proofs.KeyedOnce.{by_key_is}
use Rattle.pig_plan.proofs.laws.operators_go_by_key.Goals as goal

pub returns : goal.returns
returns c = by_key_is
