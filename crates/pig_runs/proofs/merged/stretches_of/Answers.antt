use Rattle.std.proofs.Common.{sym, subst}
use Rattle.pig_value.proofs.list_laws.Listing.{each-append}
use Rattle.pig_runs.specs.Places.{AreStretches, IsStretch}
use Rattle.pig_runs.proofs.Stretched.{one_stretch_more}
use Rattle.pig_runs.proofs.merged.stretches_of.Goals as goal

pub loop-part-preserved : goal.loop-part-preserved
loop-part-preserved c = (
  subst AreStretches (sym c.in_ok-push.ensures.items) (each-append IsStretch c.loop-part.found.items _ c.loop-part.invariant.0 (c.stretch.ensures.sound, tt)),
  λ ds alike.
      one_stretch_more ds c.args.parts.now c.loop-part.part-index c.part-item.result c.as_builder.result.now c.loop-part.found.items c.push.new.self.items c.stretch.result alike c.loop-part-test.true c.part-item.is
      c.as_builder.ensures.is c.stretch.ensures.good c.stretch.ensures.found c.in_ok-push.ensures.items (c.loop-part.invariant.1 ds alike),
)
