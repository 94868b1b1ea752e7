use Rattle.pig_physical.proofs.Slices.{all_within, one_more_slice}
use Rattle.pig_physical.proofs.slicing.stretches.Goals as goal

pub loop-part-preserved : goal.loop-part-preserved
loop-part-preserved c = (
  one_more_slice c.args.run.now c.args.points.now.points c.loop-part.part c.loop-part.found.items c.push.new.self.items c.stretch_of.result c.loop-part.invariant.0
      c.in_ok-push.ensures.items c.stretch_of.ensures.slice,
  all_within c.args.run.now c.loop-part.found.items c.push.new.self.items c.stretch_of.result c.loop-part.invariant.1 c.in_ok-push.ensures.items c.stretch_of.ensures.within,
)
