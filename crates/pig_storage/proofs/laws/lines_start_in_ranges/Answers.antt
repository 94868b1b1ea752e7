use Rattle.pig_storage.proofs.Starts.{parts_join, whole_is}
use Rattle.pig_storage.proofs.laws.lines_start_in_ranges.Goals as goal

pub returns-clause-parts : goal.returns-clause-parts
returns-clause-parts c = parts_join

pub returns-clause-whole : goal.returns-clause-whole
returns-clause-whole c = whole_is
