use Rattle.std.proofs.Common.{◌∙◌, ap, map}
use Rattle.pig_cast.specs.Keyed.{keyed}
use Rattle.pig_cast.proofs.KeyOrder.{keyed_insert}
use Rattle.pig_cast.proofs.keys.put.Goals as goal

pub returns : goal.returns
returns c = ap (map keyed) c.in_ok-insert.ensures.entries ∙ keyed_insert c.args.entries.now.entries c.args.key c.args.value
