use Rattle.pig_plan.proofs.ByTasks.{distinct_parts, kept_tasks, take_tasks}
use Rattle.pig_plan.proofs.laws.rows_go_by_tasks.Goals as goal

pub returns : goal.returns
returns c = record {
  distinct = distinct_parts;
  first = take_tasks;
  kept = kept_tasks;
}
