use Rattle.pig_gather.proofs.FieldCodes.{nothing_more, null_added}
use Rattle.pig_gather.proofs.outer.add_nulls.Goals as goal

pub loop-i-init : goal.loop-i-init
loop-i-init c = nothing_more c.args.built.now

pub loop-i-preserved : goal.loop-i-preserved
loop-i-preserved c = null_added c.args.built.now c.loop-i.built c.write.new.self c.loop-i._i c.loop-i.invariant c.in_ok-write.ensures.ok
