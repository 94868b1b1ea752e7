use Rattle.std.proofs.Common.{map}
use Rattle.pig_typed.specs.Typed.{item_typed}
use Rattle.pig_map.proofs.Choices.{all_chosen}
use Rattle.pig_map.proofs.choosing.item_places.Goals as goal

pub returns : goal.returns
returns c = all_chosen item_typed (map item_typed c.args.items.now) c.loop-left.left.now c.loop-left.places.items c.in_default.len_below c.loop-left.invariant
