use Rattle.pig_driver.proofs.Few.{few_tasks}
use Rattle.pig_driver.proofs.laws.few_tasks_fit.Goals as goal

pub returns : goal.returns
returns c = few_tasks
