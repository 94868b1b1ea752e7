use Rattle.pig_value.specs.Trees.{tree}
use Rattle.pig_replicated.proofs.Coded.{group_rows}
use Rattle.pig_replicated.proofs.finding.found.Goals as goal

pub returns-in-Some : goal.returns-in-Some
returns-in-Some c = group_rows (tree c.args.key.now) c.args.groups.now c.in-Some.at c.in-Some.ensures c.index-groups-at.result c.index-groups-at.is
