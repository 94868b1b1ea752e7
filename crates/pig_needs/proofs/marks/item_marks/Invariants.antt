use Rattle.std.proofs.Common.{◌≡◌, ◌++◌, map, length}
use Rattle.pig_typed.specs.Typed.{item_typed}
use Rattle.pig_needs.specs.Needed.{item_marks}
use Rattle.pig_needs.proofs.marks.item_marks.Given as goal

abbrev pub invariant-loop-left : goal.invariant-loop-left
invariant-loop-left l = l.marks ++ item_marks l.need l.first (map item_typed l.left) ≡ item_marks l.need 0 (map item_typed l.items)

abbrev pub decreases-loop-left : goal.decreases-loop-left
decreases-loop-left l = length l.left
