use Rattle.pig_value.specs.Trees.{rows_tree}
use Rattle.pig_operators.proofs.Coming.{group_first}
use Rattle.pig_operators.proofs.by_key.add_next.Goals as goal

pub returns-clause-rows : goal.returns-clause-rows
returns-clause-rows c =
    group_first c.args.how.now c.args.run.now c.args.from c.group_end-end.result c.group_end-end.ensures c.requires.ascending
    c.requires.sorted (rows_tree c.args.rows.now) (rows_tree c.add_group.new.rows) c.in_ok-add_group.ensures
