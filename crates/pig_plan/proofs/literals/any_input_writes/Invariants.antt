use Rattle.std.proofs.Common.{◌≡◌, map, length}
use Rattle.pig_plan.specs.Plans.{keyed_of}
use Rattle.pig_plan.specs.Valid.{keys_write_lf}
use Rattle.pig_plan.proofs.literals.any_input_writes.Given as goal

abbrev pub invariant-loop-left : goal.invariant-loop-left
invariant-loop-left l = keys_write_lf (map keyed_of l.left) ≡ keys_write_lf (map keyed_of l.inputs)

abbrev pub decreases-loop-left : goal.decreases-loop-left
decreases-loop-left l = length l.left
