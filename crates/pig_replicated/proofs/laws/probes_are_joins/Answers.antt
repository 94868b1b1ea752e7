use Rattle.pig_replicated.proofs.Probed.{inner_joins, left_joins}
use Rattle.pig_replicated.proofs.laws.probes_are_joins.Goals as goal

pub returns-clause-inner : goal.returns-clause-inner
returns-clause-inner c = inner_joins

pub returns-clause-left : goal.returns-clause-left
returns-clause-left c = left_joins
