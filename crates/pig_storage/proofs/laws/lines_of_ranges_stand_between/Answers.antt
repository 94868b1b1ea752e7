use Rattle.std.proofs.Common.{length, arith}
use Rattle.pig_storage.proofs.Between.{lines_between, start_within, starts_ascend}
use Rattle.pig_storage.proofs.laws.lines_of_ranges_stand_between.Goals as goal

pub returns-clause-lines : goal.returns-clause-lines
returns-clause-lines c = lines_between

pub returns-clause-starts : goal.returns-clause-starts
returns-clause-starts c = λ from to bytes h. (starts_ascend (length bytes) bytes from to (omega arith) h, start_within bytes to)
