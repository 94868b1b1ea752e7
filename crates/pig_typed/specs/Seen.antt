-- A kind that is lent or made, as the kind that it is.
use Rattle.pig_value.specs.Trees.{KindTree, kind_tree}
use Rattle.pig_typed.specs.declared.seen.SeenKind.{SeenKind}
use Rattle.pig_typed.specs.declared.seen.SeenKind.TheVariants as seen

abbrev pub seen_kind : SeenKind → KindTree
seen_kind (seen.Lent k) = kind_tree k.now
seen_kind (seen.Made k) = kind_tree k
