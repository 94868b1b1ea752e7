use Rattle.std.proofs.Common.{◌≡◌, ◌++◌, map, length}
use Rattle.std.specs.List.{flat_map}
use Rattle.pig_typed.specs.Typed.{step_typed}
use Rattle.pig_needs.specs.Needed.{step_bag, whole_fields}
use Rattle.pig_needs.proofs.blocks.add_steps.Given as goal

abbrev pub invariant-loop-left : goal.invariant-loop-left
invariant-loop-left l = l.found ++ flat_map (λ step. whole_fields (step_bag step)) (map step_typed l.left) ≡ l.initial.found ++ flat_map (λ step. whole_fields (step_bag step)) (map step_typed l.steps)

abbrev pub decreases-loop-left : goal.decreases-loop-left
decreases-loop-left l = length l.left
