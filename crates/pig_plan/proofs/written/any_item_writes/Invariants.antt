use Rattle.std.proofs.Common.{◌≡◌, map, length}
use Rattle.std.specs.List.{list_any}
use Rattle.pig_plan.specs.Written.{writes_lf}
use Rattle.pig_typed.specs.Typed.{item_typed}
use Rattle.pig_plan.proofs.written.any_item_writes.Given as goal

abbrev pub invariant-loop-left : goal.invariant-loop-left
invariant-loop-left l = list_any (λ item. writes_lf item.value) (map item_typed l.left) ≡ list_any (λ item. writes_lf item.value) (map item_typed l.items)

abbrev pub decreases-loop-left : goal.decreases-loop-left
decreases-loop-left l = length l.left
