use Rattle.pig_runs.specs.Packed.{packed_lent}
use Rattle.pig_runs.proofs.Stretched.{same_lent}
use Rattle.pig_runs.proofs.merged.Merged.same_key.Goals as goal

pub returns : goal.returns
returns c = same_lent c.args.self.now.dirs c.args.self.now.entries c.args.at c.args.other (packed_lent c.lend.result) (packed_lent c.lend-2.result) c.same_key.result c.lend.ensures.values c.lend.ensures.is c.lend-2.ensures.is c.same_key.ensures
