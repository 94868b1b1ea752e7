use Rattle.pig_job.proofs.Reach.{is_reached}
use Rattle.pig_job.proofs.laws.kept_is_reached.Goals as goal

pub returns : goal.returns
returns c = λ j run total entries. is_reached j (record { entries = entries; run = run; total = total })
