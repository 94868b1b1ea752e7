use Rattle.pig_job.proofs.Steps.{step_kept, reached_kept}
use Rattle.pig_job.proofs.laws.steps_keep_rule.Goals as goal

pub returns : goal.returns
returns c = record { each_step = step_kept; from_opening = reached_kept }
