use Rattle.std.proofs.Common.{rules, ◌<◌, length, map}
use Rattle.pig_physical.specs.Handed.{out_of}
use Rattle.pig_driver.proofs.Looks.{bared_step}
use Rattle.pig_driver.proofs.leaving.bared.Goals as goal

pub loop-out-preserved : goal.loop-out-preserved
loop-out-preserved c =
    let less : c.loop-out.out-index < length c.loop-out.out-items = search rules in
    bared_step (map out_of c.args.outs) c.loop-out.out-items c.loop-out.out-index c.out-item.result c.new.result c.new.ensures less c.loop-out.invariant
