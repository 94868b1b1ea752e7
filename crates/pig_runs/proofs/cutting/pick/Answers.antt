use Rattle.std.proofs.Common.{map, ◌∙◌, sym, subst}
use Rattle.pig_runs.specs.Packed.{Held, Stand, packed_lent}
use Rattle.pig_runs.proofs.Sliced.{picked_step}
use Rattle.pig_runs.proofs.cutting.pick.Goals as goal

pub pick_one-requires-clause-held : goal.pick_one-requires-clause-held
pick_one-requires-clause-held c = subst (λ ds. ∥ Held ds (map packed_lent c.args.order.now) ∥₁) (sym c.loop-k.invariant.0) c.requires.held

pub loop-k-preserved : goal.loop-k-preserved
loop-k-preserved c = (
  c.pick_one.ensures.dirs ∙ c.loop-k.invariant.0,
  λ es stands. picked_step c.args.n es c.loop-k.k c.args.points.now c.loop-k.points c.pick_one.new.points (c.loop-k.invariant.1 es stands)
      (c.in_ok-pick_one.ensures.ok es (subst (λ ds. Stand ds es (map packed_lent c.args.order.now)) (sym c.loop-k.invariant.0) stands)),
)
