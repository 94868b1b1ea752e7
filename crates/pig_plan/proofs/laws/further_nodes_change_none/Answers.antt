use Rattle.pig_plan.proofs.Adding.{meaning_stays}
use Rattle.pig_plan.proofs.laws.further_nodes_change_none.Goals as goal

pub returns : goal.returns
returns c = λ plan node inputs kept valid fitting k h. meaning_stays plan node inputs kept valid fitting k h
