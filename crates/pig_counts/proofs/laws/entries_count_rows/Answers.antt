use Rattle.pig_counts.proofs.TaskCounts.{entries_length}
use Rattle.pig_counts.proofs.laws.entries_count_rows.Goals as goal

pub returns : goal.returns
returns c = entries_length
