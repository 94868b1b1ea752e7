use Rattle.std.proofs.Common.{◌<◌, length, arith}
use Rattle.pig_value.proofs.list_laws.Indexing.{some_at}
use Rattle.pig_runs.specs.Packed.{packed_lent}
use Rattle.pig_gather.proofs.LentRows.{row_more, row_pushed, row_whole}
use Rattle.pig_gather.proofs.whole.add_between.Goals as goal

pub push_code-requires-clause-whole : goal.push_code-requires-clause-whole
push_code-requires-clause-whole c = row_whole c.args.stretch.now.entries.now c.loop-at.at (packed_lent c.lend.result) c.lend.ensures.is c.lend.ensures.values

pub loop-at-preserved : goal.loop-at-preserved
loop-at-preserved c =
    let run = c.args.stretch.now.entries.now in
    let high : c.loop-at.at < length run.entries = let test = c.loop-at-test.true in let within = c.args.stretch.now.within in omega (arith, test, within) in
    let found = some_at run.entries c.loop-at.at high in
    row_more run c.args.stretch.now.from c.loop-at.at found.0 c.args.built.now c.loop-at.built c.push_code.new.self c.loop-at.auto.at high found.1 c.loop-at.invariant
    (row_pushed run c.loop-at.at (packed_lent c.lend.result) c.lend.ensures.is c.loop-at.built c.push_code.new.self c.lend.ensures.values found.0 found.1 c.in_ok-push_code.ensures.ok)
