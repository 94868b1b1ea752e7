use Rattle.std.proofs.Common.{◌≡◌, take}
use Rattle.pig_typed.proofs.copying.copy_items.Given as goal

abbrev pub invariant-loop-item : goal.invariant-loop-item
invariant-loop-item l = l.made.items ≡ take l.item-index l.items
