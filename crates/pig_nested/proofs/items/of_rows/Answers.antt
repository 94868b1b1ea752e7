use Rattle.std.proofs.Common.{◌∙◌, ap, [], ◌∷◌}
use Rattle.pig_value.specs.Trees.{row_tree, rows_tree}
use Rattle.pig_typed.specs.Products.{joined}
use Rattle.pig_nested.proofs.JoinedLaws.{joined_none}
use Rattle.pig_nested.proofs.items.of_rows.Goals as goal

pub returns : goal.returns
returns c = ap (λ tail. joined (rows_tree c.args.rows) (row_tree tail ∷ [])) c.new-tail.ensures ∙ joined_none (rows_tree c.args.rows)
