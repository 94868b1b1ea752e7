use Rattle.pig_collect.proofs.Telling.{told_first}
use Rattle.pig_collect.proofs.laws.runs_tell_the_first_unmet.Goals as goal

pub returns : goal.returns
returns c = told_first c.stages_give_meaning.ensures
