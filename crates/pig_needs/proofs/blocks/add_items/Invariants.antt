use Rattle.std.proofs.Common.{◌≡◌, ◌++◌, map, length}
use Rattle.std.specs.List.{flat_map}
use Rattle.pig_typed.specs.Typed.{item_typed, step_typed}
use Rattle.pig_needs.specs.Needed.{kept_items, value_names}
use Rattle.pig_needs.proofs.blocks.add_items.Given as goal

abbrev pub invariant-loop-left : goal.invariant-loop-left
invariant-loop-left l = l.found ++ flat_map (λ item. value_names (map step_typed l.steps) item.value) (kept_items l.own l.first (map item_typed l.left))
    ≡ l.initial.found ++ flat_map (λ item. value_names (map step_typed l.steps) item.value) (kept_items l.own 0 (map item_typed l.items))

abbrev pub decreases-loop-left : goal.decreases-loop-left
decreases-loop-left l = length l.left
