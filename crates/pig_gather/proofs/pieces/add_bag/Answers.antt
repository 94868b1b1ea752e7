use Rattle.std.proofs.lemmas.Result.{on_ok_weaker}
use Rattle.pig_operators.specs.Groups.{rows_at}
use Rattle.pig_gather.proofs.FieldCodes.{bag_added}
use Rattle.pig_gather.proofs.pieces.add_bag.Goals as goal

pub returns : goal.returns
returns c =
    on_ok_weaker c.write-2.result
    (λ last. bag_added c.args.built.now c.write.new.self c.add_items.new.built c.write-2.new.self (rows_at c.args.stretch.now.entries.now c.args.stretch.now.from c.args.stretch.now.end) c.in_ok-write.ensures.ok c.in_ok-add_items.ensures last) c.write-2.ensures.ok
