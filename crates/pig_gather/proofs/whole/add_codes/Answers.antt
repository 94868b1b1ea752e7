use Rattle.pig_packed.proofs.Lending.{lent_whole}
use Rattle.pig_gather.proofs.LentRows.{code_more}
use Rattle.pig_gather.proofs.whole.add_codes.Goals as goal

pub push_code-requires-clause-whole : goal.push_code-requires-clause-whole
push_code-requires-clause-whole c = lent_whole c.args.list.now c.loop-at.at c.code.result.now c.code.ensures.values c.code.ensures.is

pub loop-at-preserved : goal.loop-at-preserved
loop-at-preserved c =
    code_more c.args.list.now c.loop-at.at c.code.result.now c.args.built.now c.loop-at.built c.push_code.new.self c.code.ensures.values c.code.ensures.is c.loop-at.invariant c.in_ok-push_code.ensures.ok
