use Rattle.pig_probe.proofs.ByCodes.{null_more}
use Rattle.pig_probe.proofs.pieces.add_nulls.Goals as goal

pub loop-i-preserved : goal.loop-i-preserved
loop-i-preserved c = null_more c.loop-i._i c.args.front.now.items c.loop-i.front.items c.add_bytes.new.front.items c.loop-i.invariant c.in_ok-add_bytes.ensures
