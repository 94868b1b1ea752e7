use Rattle.pig_replicated.proofs.Held.{lookups_find, lookups_see}
use Rattle.pig_replicated.proofs.laws.lookups_find_rows.Goals as goal

pub returns-clause-rows : goal.returns-clause-rows
returns-clause-rows c = lookups_find

pub returns-clause-bag : goal.returns-clause-bag
returns-clause-bag c = lookups_see
