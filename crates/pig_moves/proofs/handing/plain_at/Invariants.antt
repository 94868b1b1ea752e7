use Rattle.std.proofs.Common.{◌≡◌, map, length}
use Rattle.pig_typed.specs.Typed.{item_typed}
use Rattle.pig_plan.specs.Moves.{plain_at}
use Rattle.pig_moves.proofs.handing.plain_at.Given as goal

abbrev pub invariant-loop-left : goal.invariant-loop-left
invariant-loop-left l = plain_at (map item_typed l.left) l.place ≡ plain_at (map item_typed l.items) l.n

abbrev pub decreases-loop-left : goal.decreases-loop-left
decreases-loop-left l = length l.left
