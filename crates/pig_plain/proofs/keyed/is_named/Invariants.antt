use Rattle.std.proofs.Common.{◌≡◌, ◌==◌, length, map}
use Rattle.std.specs.List.{list_any}
use Rattle.pig_plan.specs.Plans.{keyed_of}
use Rattle.pig_plain.proofs.keyed.is_named.Given as goal

abbrev pub invariant-loop-left : goal.invariant-loop-left
invariant-loop-left l = list_any (λ i. i == l.node) (map (λ i. i.input) (map keyed_of l.left)) ≡ list_any (λ i. i == l.node) (map (λ i. i.input) (map keyed_of l.inputs))

abbrev pub decreases-loop-left : goal.decreases-loop-left
decreases-loop-left l = length l.left
