use Rattle.std.proofs.Common.{◌≡◌, map, drop}
use Rattle.pig_typed.specs.Typed.{item_typed}
use Rattle.pig_share.specs.Hashed.{all_hash, item_hash}
use Rattle.pig_share.proofs.hashing.mix_items.Given as goal

abbrev pub invariant-loop-item : goal.invariant-loop-item
invariant-loop-item l = all_hash item_hash l.made (map item_typed (drop l.item-index l.items)) ≡ all_hash item_hash l.h (map item_typed l.items)
