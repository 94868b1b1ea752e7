use Rattle.std.proofs.Common.{◌≡◌, map, length}
use Rattle.pig_plan.specs.Meaning.{width_at}
use Rattle.pig_plan.specs.Plans.{keyed_of, plan_of}
use Rattle.pig_moves.specs.Pushed.{spot_of}
use Rattle.pig_moves.proofs.joining.find_spot.Given as goal

abbrev pub invariant-loop-left : goal.invariant-loop-left
invariant-loop-left l = spot_of (width_at (plan_of l.plan)) l.fields l.first l.place (map keyed_of l.left) ≡ spot_of (width_at (plan_of l.plan)) l.fields 0 0 (map keyed_of l.inputs)

abbrev pub decreases-loop-left : goal.decreases-loop-left
decreases-loop-left l = length l.left
