use Rattle.std.proofs.Common.{◌≡◌, map, length, not}
use Rattle.std.specs.List.{list_all}
use Rattle.pig_plan.specs.Plans.{keyed_of}
use Rattle.pig_plan.proofs.checking.none_is_inner.Given as goal

abbrev pub invariant-loop-left : goal.invariant-loop-left
invariant-loop-left l = list_all (λ input. not input.inner) (map keyed_of l.left) ≡ list_all (λ input. not input.inner) (map keyed_of l.inputs)

abbrev pub decreases-loop-left : goal.decreases-loop-left
decreases-loop-left l = length l.left
