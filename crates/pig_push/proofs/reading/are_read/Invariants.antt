use Rattle.std.proofs.Common.{◌≡◌, ◌==◌, map, length}
use Rattle.std.specs.List.{list_any}
use Rattle.pig_plan.specs.Plans.{keyed_of}
use Rattle.pig_push.proofs.reading.are_read.Given as goal

abbrev pub invariant-loop-left : goal.invariant-loop-left
invariant-loop-left l = list_any (λ i. i == l.number) (map (λ k. k.input) (map keyed_of l.left)) ≡ list_any (λ i. i == l.number) (map (λ k. k.input) (map keyed_of l.inputs))

abbrev pub decreases-loop-left : goal.decreases-loop-left
decreases-loop-left l = length l.left
