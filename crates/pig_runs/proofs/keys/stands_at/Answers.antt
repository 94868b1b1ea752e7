use Rattle.pig_runs.specs.Packed.{packed_lent}
use Rattle.pig_runs.proofs.Once.{lent_already}
use Rattle.pig_runs.proofs.keys.stands_at.Goals as goal

pub returns : goal.returns
returns c same key told =
    lent_already c.args.built.now.dirs c.args.built.now.entries c.args.at (packed_lent c.lend.result) c.args.bytes.now key c.requires c.lend.ensures.good c.lend.ensures.is
    (c.is_same_code.ensures same) told
