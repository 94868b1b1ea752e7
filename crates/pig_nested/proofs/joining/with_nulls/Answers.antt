use Rattle.std.proofs.Math.ListN.{replicate}
use Rattle.pig_value.specs.Trees.{row_tree, v_null}
use Rattle.pig_nested.proofs.JoinedLaws.{fields_behind}
use Rattle.pig_nested.proofs.joining.with_nulls.Goals as goal

pub returns : goal.returns
returns c =
    fields_behind c.args.joining.rows (row_tree c.args.joining.tail) (row_tree c.add_nulls.new.row) (replicate c.args.width v_null) c.in_ok-add_nulls.ensures
