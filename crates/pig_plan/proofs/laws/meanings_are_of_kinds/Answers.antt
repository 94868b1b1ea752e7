use Rattle.pig_plan.proofs.OfKinds.{meanings_are_of_kinds}
use Rattle.pig_plan.proofs.laws.meanings_are_of_kinds.Goals as goal

pub returns : goal.returns
returns c = meanings_are_of_kinds
