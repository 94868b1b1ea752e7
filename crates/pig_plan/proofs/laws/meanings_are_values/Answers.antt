use Rattle.pig_plan.proofs.Values.{meanings_are_values}
use Rattle.pig_plan.proofs.laws.meanings_are_values.Goals as goal

pub returns : goal.returns
returns c = meanings_are_values
