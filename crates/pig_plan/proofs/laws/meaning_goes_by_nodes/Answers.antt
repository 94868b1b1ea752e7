use Rattle.pig_plan.proofs.Lower.{meaning_of_node}
use Rattle.pig_plan.proofs.laws.meaning_goes_by_nodes.Goals as goal

pub returns : goal.returns
returns c = meaning_of_node
