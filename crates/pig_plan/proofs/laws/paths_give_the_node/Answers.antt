use Rattle.pig_plan.proofs.Through.{paths_give_the_node}
use Rattle.pig_plan.proofs.laws.paths_give_the_node.Goals as goal

pub returns : goal.returns
returns c = λ plan inputs kept valid sources top given k node within at. paths_give_the_node plan inputs kept valid sources top given k node within at
