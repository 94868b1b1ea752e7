-- A value that is lent or made, as the value that it is.
use Rattle.pig_value.specs.Trees.{Tree, tree}
use Rattle.pig_eval.specs.declared.seen.Seen.{Seen}
use Rattle.pig_eval.specs.declared.seen.Seen.TheVariants as seen

abbrev pub seen_tree : Seen → Tree
seen_tree (seen.Lent v) = tree v.now
seen_tree (seen.Made v) = tree v
