use Rattle.pig_packed.proofs.Lending.{lent_whole}
use Rattle.pig_packed_tests.proofs.packing.add_code.Goals as goal

pub push-requires-clause-whole : goal.push-requires-clause-whole
push-requires-clause-whole g c = lent_whole c.args.rows.now c.args.at c.code.result.now c.code.ensures.values c.code.ensures.is
