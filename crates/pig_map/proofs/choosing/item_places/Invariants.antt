use Rattle.std.proofs.Common.{length, map}
use Rattle.pig_typed.specs.Typed.{item_typed}
use Rattle.pig_map.proofs.Choices.{AreLeft}
use Rattle.pig_map.proofs.choosing.item_places.Given as goal

abbrev pub invariant-loop-left : goal.invariant-loop-left
invariant-loop-left l = AreLeft (map item_typed l.items) l.places.items (map item_typed l.left)

abbrev pub decreases-loop-left : goal.decreases-loop-left
decreases-loop-left l = length l.left
