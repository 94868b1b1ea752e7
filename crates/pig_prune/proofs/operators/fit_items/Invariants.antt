use Rattle.std.proofs.Common.{◌≡◌, ◌++◌, map, length}
use Rattle.pig_typed.specs.Typed.{item_typed}
use Rattle.pig_cuts.specs.Cuts.{cut_at}
use Rattle.pig_cuts.specs.Fits.{fit_item}
use Rattle.pig_cuts.specs.Plans.{staying}
use Rattle.pig_prune.proofs.operators.fit_items.Given as goal

abbrev pub invariant-loop-left : goal.invariant-loop-left
invariant-loop-left l = map item_typed l.made ++ map (fit_item (cut_at l.cuts) (cut_at l.cuts l.node)) (staying l.marked (map item_typed l.left)) ≡ map (fit_item (cut_at l.cuts) (cut_at l.cuts l.node)) (staying l.marks (map item_typed l.items))

abbrev pub decreases-loop-left : goal.decreases-loop-left
decreases-loop-left l = length l.left
