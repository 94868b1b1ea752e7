use Rattle.std.proofs.Common.{◌≡◌, ◌++◌, map, length}
use Rattle.std.specs.List.{flat_map}
use Rattle.pig_typed.specs.Typed.{item_typed}
use Rattle.pig_cuts.specs.Plans.{spans, staying}
use Rattle.pig_prune.proofs.cutting.item_numbers.Given as goal

abbrev pub invariant-loop-left : goal.invariant-loop-left
invariant-loop-left l = l.numbers ++ flat_map (λ span. span) (staying l.marked (spans l.first (map item_typed l.left))) ≡ flat_map (λ span. span) (staying l.marks (spans 0 (map item_typed l.items)))

abbrev pub decreases-loop-left : goal.decreases-loop-left
decreases-loop-left l = length l.left
