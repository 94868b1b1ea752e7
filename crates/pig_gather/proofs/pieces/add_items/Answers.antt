use Rattle.std.proofs.Common.{◌<◌, length, arith}
use Rattle.pig_value.proofs.list_laws.Indexing.{some_at}
use Rattle.pig_gather.proofs.LentRows.{item_more}
use Rattle.pig_gather.proofs.pieces.add_items.Goals as goal

pub loop-at-preserved : goal.loop-at-preserved
loop-at-preserved c =
    let run = c.args.stretch.now.entries.now in
    let high : c.loop-at.at < length run.entries = let test = c.loop-at-test.true in let within = c.args.stretch.now.within in omega (arith, test, within) in
    let found = some_at run.entries c.loop-at.at high in
    item_more run c.args.stretch.now.from c.loop-at.at found.0 c.args.built.now c.loop-at.built c.add_item.new.built c.loop-at.auto.at high found.1 c.loop-at.invariant (c.in_ok-add_item.ensures found.0 found.1)
