use Rattle.pig_operators.proofs.SortEntries.{ordered_is}
use Rattle.pig_operators.proofs.Stretches.{sorted_out}
use Rattle.pig_operators.proofs.batches.Orderer.new.Goals as goal

pub returns-clause-order : goal.returns-clause-order
returns-clause-order c keys is = ordered_is keys c.args.run is (sorted_out c.args.run.dirs c.args.run.entries c.len.ensures.sorted)
