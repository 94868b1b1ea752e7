use Rattle.pig_value.specs.Trees.{row_tree}
use Rattle.pig_nested.proofs.JoinedLaws.{fields_behind}
use Rattle.pig_nested.proofs.joining.with_fields.Goals as goal

pub returns : goal.returns
returns c =
    fields_behind c.args.joining.rows (row_tree c.args.joining.tail) (row_tree c.add_copies.new.row) (row_tree c.args.fields.now) c.in_ok-add_copies.ensures
