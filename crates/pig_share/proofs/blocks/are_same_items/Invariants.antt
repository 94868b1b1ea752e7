use Rattle.std.proofs.Common.{◌≡◌, map, length}
use Rattle.pig_typed.specs.Typed.{item_typed}
use Rattle.pig_share.specs.Same.{same_all, same_item}
use Rattle.pig_share.proofs.blocks.are_same_items.Given as goal

abbrev pub invariant-loop-left : goal.invariant-loop-left
invariant-loop-left l = same_all same_item (map item_typed l.left) (map item_typed l.other) ≡ same_all same_item (map item_typed l.a) (map item_typed l.b)

abbrev pub decreases-loop-left : goal.decreases-loop-left
decreases-loop-left l = length l.left
