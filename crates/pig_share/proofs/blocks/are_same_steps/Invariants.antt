use Rattle.std.proofs.Common.{◌≡◌, map, length}
use Rattle.pig_typed.specs.Typed.{step_typed}
use Rattle.pig_share.specs.Same.{same_all, same_step}
use Rattle.pig_share.proofs.blocks.are_same_steps.Given as goal

abbrev pub invariant-loop-left : goal.invariant-loop-left
invariant-loop-left l = same_all same_step (map step_typed l.left) (map step_typed l.other) ≡ same_all same_step (map step_typed l.a) (map step_typed l.b)

abbrev pub decreases-loop-left : goal.decreases-loop-left
decreases-loop-left l = length l.left
