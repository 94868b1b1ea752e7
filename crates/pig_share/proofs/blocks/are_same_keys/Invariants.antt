use Rattle.std.proofs.Common.{◌≡◌, map, length}
use Rattle.pig_typed.specs.Typed.{typed}
use Rattle.pig_share.specs.Same.{same_all, same_expr}
use Rattle.pig_share.proofs.blocks.are_same_keys.Given as goal

abbrev pub invariant-loop-left : goal.invariant-loop-left
invariant-loop-left l = same_all same_expr (map typed l.left) (map typed l.other) ≡ same_all same_expr (map typed l.a) (map typed l.b)

abbrev pub decreases-loop-left : goal.decreases-loop-left
decreases-loop-left l = length l.left
