use Rattle.std.proofs.Common.{length}
use Rattle.pig_pool.proofs.Placing.{ArePlacing}
use Rattle.pig_pool.proofs.outputs.place.Given as goal

abbrev pub invariant-loop-t : goal.invariant-loop-t
invariant-loop-t g l = ArePlacing (g.W.Work.right l.work) (g.W.Work.count l.work) l.places.items l.outputs

abbrev pub decreases-loop-t : goal.decreases-loop-t
decreases-loop-t g l = length l.outputs
