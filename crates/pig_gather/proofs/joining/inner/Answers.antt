use Rattle.std.proofs.Common.{arith}
use Rattle.pig_gather.proofs.FieldCodes.{inner_is, row_len}
use Rattle.pig_gather.proofs.joining.inner.Goals as goal

pub returns-in_default : goal.returns-in_default
returns-in_default c row is = absurd (let size = row_len c.args.code.now row is in let short = c.in_default.len_below in omega (arith, size, short))

pub returns-in-len2-up : goal.returns-in-len2-up
returns-in-len2-up c row is = inner_is c.args.code.now row is
