use Rattle.pig_shuffle.proofs.Runs.{runs_are_of_node}
use Rattle.pig_shuffle.proofs.laws.runs_are_of_the_node.Goals as goal

pub returns : goal.returns
returns c = runs_are_of_node
