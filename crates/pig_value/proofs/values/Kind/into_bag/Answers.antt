use Rattle.std.proofs.Common.{map, refl}
use Rattle.pig_value.specs.Trees.{kind_tree}
use Rattle.pig_value.proofs.TreeLaws.{kind_tree-Bag, kinds_back}
use Rattle.pig_value.proofs.values.Kind.into_bag.Goals as goal

pub returns-in-Bag : goal.returns-in-Bag
returns-in-Bag c = rw (c.in-Bag.is, kind_tree-Bag c.in-Bag.kinds, kinds_back (map kind_tree c.in-Bag.kinds)) refl
