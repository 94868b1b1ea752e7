use Rattle.std.proofs.Common.{length}
use Rattle.pig_combine.proofs.groups.+add_row.Given as goal

abbrev pub decreases-add_row : goal.decreases-add_row
decreases-add_row l = length l.cuts.now
