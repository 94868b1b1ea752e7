use Rattle.pig_plan.proofs.Conjoined.{by_conjuncts}
use Rattle.pig_plan.proofs.laws.conditions_go_by_conjuncts.Goals as goal

pub returns : goal.returns
returns c = λ test row. by_conjuncts row test
