use Rattle.pig_replicated.specs.Holding.{matches_in}
use Rattle.pig_value.specs.Trees.{tree}
use Rattle.pig_replicated.proofs.Adding.{none_are}
use Rattle.pig_replicated.proofs.probing.lacks.Goals as goal

pub returns : goal.returns
returns c = none_are c.is_empty.result c.matches.result.now (matches_in c.args.side.now (tree c.args.key.now)) c.is_empty.ensures c.matches.ensures
