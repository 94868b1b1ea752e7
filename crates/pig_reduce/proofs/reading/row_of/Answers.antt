use Rattle.pig_value.specs.Trees.{row_tree}
use Rattle.pig_runs.specs.Packed.{packed_lent}
use Rattle.pig_reduce.proofs.Lent.{row_read}
use Rattle.pig_reduce.proofs.reading.row_of.Goals as goal

pub returns-clause-is : goal.returns-clause-is
returns-clause-is c =
    row_read c.args.entries.now c.args.at (packed_lent c.lend.result) c.lend.ensures.is row_tree c.read_row.result c.lend.ensures.values c.read_row.ensures.is
