use Rattle.std.proofs.Common.{◌≡◌, map, length}
use Rattle.std.specs.List.{list_any}
use Rattle.pig_plan.specs.Written.{step_writes_lf}
use Rattle.pig_typed.specs.Typed.{step_typed}
use Rattle.pig_plan.proofs.written.any_step_writes.Given as goal

abbrev pub invariant-loop-left : goal.invariant-loop-left
invariant-loop-left l = list_any step_writes_lf (map step_typed l.left) ≡ list_any step_writes_lf (map step_typed l.steps)

abbrev pub decreases-loop-left : goal.decreases-loop-left
decreases-loop-left l = length l.left
