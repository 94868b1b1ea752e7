use Rattle.pig_runs.proofs.SortedSlots.{ascends_run}
use Rattle.pig_runs.proofs.builder.RunBuilder.finish.Goals as goal

pub from_sorted-requires : goal.from_sorted-requires
from_sorted-requires c = ascends_run c.sort.new.self c.args.self.dirs c.args.self.entries c.sort.ensures
