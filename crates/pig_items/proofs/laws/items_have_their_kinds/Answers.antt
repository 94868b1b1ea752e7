use Rattle.pig_items.proofs.ItemsHold.{items_hold}
use Rattle.pig_items.proofs.laws.items_have_their_kinds.Goals as goal

pub returns : goal.returns
returns c = record {
  kinds = λ s is g w h. (items_hold s w is g h).kinds;
  columns = λ s is g w h. (items_hold s w is g h).columns;
}
