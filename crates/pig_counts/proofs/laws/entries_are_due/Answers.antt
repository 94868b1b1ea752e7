use Rattle.pig_counts.proofs.Counted.{all_due}
use Rattle.pig_counts.proofs.laws.entries_are_due.Goals as goal

pub returns : goal.returns
returns c = all_due
