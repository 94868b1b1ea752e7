use Rattle.pig_packed.proofs.Lending.{row_read}
use Rattle.pig_map.proofs.copies.unpacked_row.Goals as goal

pub returns-clause-is : goal.returns-clause-is
returns-clause-is c = row_read c.args.packed.now c.args.at c.code.result.now c.decoded_row.result c.code.ensures.values c.code.ensures.is c.decoded_row.ensures.is
