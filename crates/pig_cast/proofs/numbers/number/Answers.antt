use Rattle.std.specs.Int.{w64}
use Rattle.pig_cast.proofs.NumberText.{some_iff}
use Rattle.pig_cast.proofs.numbers.number.Goals as goal

pub returns : goal.returns
returns c = some_iff w64 c.args.bytes.now c.long.result c.long.ensures
