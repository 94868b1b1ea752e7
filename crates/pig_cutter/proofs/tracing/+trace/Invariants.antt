-- A node is traced by its inputs, which are lower.
use Rattle.std.proofs.Common.{◌≡◌, ◌<◌, ◌+◌, ◌*◌, ◌++◌, map, length, reverse}
use Rattle.std.specs.List.{AllByRecursion, flat_map}
use Rattle.pig_plan.specs.Nodes.{paths_of}
use Rattle.pig_plan.specs.Plans.{plan_of}
use Rattle.pig_physical.specs.Seen.{entering_of}
use Rattle.pig_cutter.specs.Traces.{behind}
use Rattle.pig_cutter.proofs.tracing.+trace.Given as goal

abbrev pub decreases-trace : goal.decreases-trace
decreases-trace l = 2 * l.number + 1

abbrev pub decreases-trace_inputs : goal.decreases-trace_inputs
decreases-trace_inputs l = 2 * l.number

abbrev pub invariant-trace_inputs-loop-left : goal.invariant-trace_inputs-loop-left
invariant-trace_inputs-loop-left l =
    (l.trail ≡ l.initial.trail)
    × (map entering_of l.ways ++ flat_map (λ i. map (behind l.input (reverse l.initial.trail)) (paths_of (plan_of l.nodes) i)) l.left
    ≡ map entering_of l.initial.ways ++ flat_map (λ i. map (behind l.input (reverse l.initial.trail)) (paths_of (plan_of l.nodes) i)) l.inputs)
    × AllByRecursion (λ i. i < l.number) l.left

abbrev pub decreases-trace_inputs-loop-left : goal.decreases-trace_inputs-loop-left
decreases-trace_inputs-loop-left l = length l.left
