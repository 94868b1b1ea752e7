use Rattle.std.proofs.Common.{◌≡◌, ◌++◌, map, length}
use Rattle.pig_plan.specs.Plans.{keyed_of}
use Rattle.pig_moves.specs.Pushed.{over_at}
use Rattle.pig_moves.proofs.joining.over_at.Given as goal

abbrev pub invariant-loop-left : goal.invariant-loop-left
invariant-loop-left l = map keyed_of l.made ++ over_at l.node l.place l.own (map keyed_of l.left) ≡ over_at l.node l.place 0 (map keyed_of l.inputs)

abbrev pub decreases-loop-left : goal.decreases-loop-left
decreases-loop-left l = length l.left
