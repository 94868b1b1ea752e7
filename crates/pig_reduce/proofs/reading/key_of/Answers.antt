use Rattle.pig_value.specs.Trees.{tree}
use Rattle.pig_runs.specs.Packed.{packed_lent}
use Rattle.pig_reduce.proofs.Lent.{key_read}
use Rattle.pig_reduce.proofs.reading.key_of.Goals as goal

pub returns-clause-is : goal.returns-clause-is
returns-clause-is c =
    key_read c.args.entries.now c.args.at
    (packed_lent c.lend.result) c.lend.ensures.is tree c.read_key.result c.requires.ascending c.lend.ensures.values c.read_key.ensures.is
