use Rattle.std.proofs.Common.{◌∙◌, sym}
use Rattle.pig_value.specs.Trees.{rows_tree, tree}
use Rattle.pig_nested.proofs.Forms.{flattened_found}
use Rattle.pig_nested.proofs.items.first_made.Goals as goal

pub returns-in-Ok : goal.returns-in-Ok
returns-in-Ok c = c.of_rows.ensures ∙ sym (flattened_found c.args.width (tree c.args.v) (rows_tree c.in-Ok.rows) c.in-Ok.ensures.rows)
