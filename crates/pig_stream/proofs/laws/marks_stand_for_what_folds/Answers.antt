use Rattle.pig_stream.proofs.Joining.{through_marked, unmet_marked}
use Rattle.pig_stream.proofs.laws.marks_stand_for_what_folds.Goals as goal

pub returns-clause-rows : goal.returns-clause-rows
returns-clause-rows c = λ folding folded are plan path rows. through_marked folding folded are plan path rows

pub returns-clause-unmet : goal.returns-clause-unmet
returns-clause-unmet c = λ folding folded are plan path rows. unmet_marked folding folded are plan path rows
