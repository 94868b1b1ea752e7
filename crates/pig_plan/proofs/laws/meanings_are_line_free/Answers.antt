use Rattle.pig_plan.proofs.LineFree.{meanings_are_line_free}
use Rattle.pig_plan.proofs.laws.meanings_are_line_free.Goals as goal

pub returns : goal.returns
returns c = meanings_are_line_free
