use Rattle.pig_storage.proofs.SplitLines.{splits_are, splits_within}
use Rattle.pig_storage.proofs.laws.lines_of_splits_are_all.Goals as goal

pub returns-clause-lines : goal.returns-clause-lines
returns-clause-lines c = splits_are

pub returns-clause-each : goal.returns-clause-each
returns-clause-each c = splits_within
