use Rattle.pig_packed.proofs.Lending.{row_read}
use Rattle.pig_packed.proofs.rows.Packed.row.Goals as goal

pub returns : goal.returns
returns c = row_read c.args.self.now c.args.at c.code.result.now c.read_row.result c.code.ensures.values c.code.ensures.is c.read_row.ensures
