use Rattle.std.proofs.Common.{map, refl}
use Rattle.pig_value.specs.Trees.{kind_tree}
use Rattle.pig_value.proofs.TreeLaws.{kind_tree-Bag, kind_tree-Tuple, kinds_back}
use Rattle.pig_value.proofs.values.Kind.into_kinds.Goals as goal

pub returns-in-Tuple-clause-kinds : goal.returns-in-Tuple-clause-kinds
returns-in-Tuple-clause-kinds c = rw (c.in-Tuple.is, kind_tree-Tuple c.in-Tuple.kinds, kinds_back (map kind_tree c.in-Tuple.kinds)) refl

pub returns-in-Bag-clause-kinds : goal.returns-in-Bag-clause-kinds
returns-in-Bag-clause-kinds c = rw (c.in-Bag.is, kind_tree-Bag c.in-Bag.kinds, kinds_back (map kind_tree c.in-Bag.kinds)) refl
