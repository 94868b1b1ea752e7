use Rattle.pig_value.specs.Trees.{tree}
use Rattle.pig_replicated.specs.Holding.{matches_in}
use Rattle.pig_probe.proofs.ByCodes.{none_are}
use Rattle.pig_probe.proofs.joining.lacks.Goals as goal

pub returns : goal.returns
returns c = none_are (λ row. row.items) c.is_empty.result c.coded_matches.result.now (matches_in c.args.side.now (tree c.args.key.now)) c.is_empty.ensures c.coded_matches.ensures
