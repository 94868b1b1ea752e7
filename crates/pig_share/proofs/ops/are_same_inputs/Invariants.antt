use Rattle.std.proofs.Common.{◌≡◌, map, length}
use Rattle.pig_plan.specs.Plans.{keyed_of}
use Rattle.pig_share.specs.Same.{same_all, same_keyed}
use Rattle.pig_share.proofs.ops.are_same_inputs.Given as goal

abbrev pub invariant-loop-left : goal.invariant-loop-left
invariant-loop-left l = same_all same_keyed (map keyed_of l.left) (map keyed_of l.other) ≡ same_all same_keyed (map keyed_of l.a) (map keyed_of l.b)

abbrev pub decreases-loop-left : goal.decreases-loop-left
decreases-loop-left l = length l.left
