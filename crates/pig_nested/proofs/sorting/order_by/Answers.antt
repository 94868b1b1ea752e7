use Rattle.std.proofs.Common.{rules}
use Rattle.pig_value.specs.Trees.{row_tree}
use Rattle.pig_nested.proofs.SortedLaws.{keys_then_rows}
use Rattle.pig_nested.proofs.sorting.order_by.Goals as goal

pub returns-in-Equal : goal.returns-in-Equal
returns-in-Equal c = let is = keys_then_rows c.args.keys.now (row_tree c.args.a.now) (row_tree c.args.b.now) in rw is (search rules)

pub returns-in_default : goal.returns-in_default
returns-in_default c = let is = keys_then_rows c.args.keys.now (row_tree c.args.a.now) (row_tree c.args.b.now) in rw is (search rules)
