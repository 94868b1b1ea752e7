use Rattle.std.proofs.Common.{◌≡◌, drop}
use Rattle.pig_typing.specs.Columns.{place_of}
use Rattle.pig_items.specs.Items.{items_of, both_items}
use Rattle.pig_typing.specs.Results.{checked_map}
use Rattle.pig_items.specs.Views.{generated_tree}
use Rattle.pig_items.proofs.items.items_told.Given as goal

abbrev pub invariant-loop-item : goal.invariant-loop-item
invariant-loop-item l = checked_map (both_items (generated_tree l.so_far)) (items_of (place_of l.scope) (drop l.item-index l.items)) ≡ items_of (place_of l.scope) l.items
