use Rattle.std.proofs.Common.{refl}
use Rattle.pig_value.specs.Trees.{rows_tree}
use Rattle.pig_value.proofs.TreeLaws.{tree-Bag, tree-Listed, tuples_back}
use Rattle.pig_value.proofs.values.Value.into_rows.Goals as goal

pub returns-in-Bag-clause-rows : goal.returns-in-Bag-clause-rows
returns-in-Bag-clause-rows c = rw (c.in-Bag.is, tree-Bag c.in-Bag.rows, tuples_back (rows_tree c.in-Bag.rows)) refl

pub returns-in-Listed-clause-rows : goal.returns-in-Listed-clause-rows
returns-in-Listed-clause-rows c = rw (c.in-Listed.is, tree-Listed c.in-Listed.rows, tuples_back (rows_tree c.in-Listed.rows)) refl
