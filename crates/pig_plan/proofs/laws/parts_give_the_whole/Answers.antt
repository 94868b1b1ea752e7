use Rattle.pig_plan.proofs.Gathered.{gathered_parts}
use Rattle.pig_plan.proofs.laws.parts_give_the_whole.Goals as goal

pub returns : goal.returns
returns c = gathered_parts
