use Rattle.pig_cutter.proofs.Loops.{splits_counted}
use Rattle.pig_cutter.proofs.counting.splits_up_to.Goals as goal

pub returns : goal.returns
returns c = splits_counted c.args.limit c.args.split c.loop-left.sum c.loop-left.left.now c.args.lengths.now c.in_default.len_below c.loop-left.invariant
