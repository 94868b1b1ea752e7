use Rattle.std.proofs.Common.{sym}
use Rattle.pig_plan.proofs.Through.{through_both}
use Rattle.pig_stream.proofs.Joining.{fails_joined, marked_is}
use Rattle.pig_stream.proofs.laws.steps_join_batches.Goals as goal

pub returns-clause-rows : goal.returns-clause-rows
returns-clause-rows c = λ folding plan path xs ys. through_both folding plan path xs ys

pub returns-clause-marks : goal.returns-clause-marks
returns-clause-marks c = λ folding plan path xs ys. sym (fails_joined folding plan path xs ys)

pub returns-clause-unmet : goal.returns-clause-unmet
returns-clause-unmet c = λ folding plan path rows. marked_is folding plan path rows
