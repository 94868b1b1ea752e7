use Rattle.std.proofs.Common.{◌∙◌, ap, [], ◌∷◌}
use Rattle.pig_value.specs.Trees.{row_tree, rows_tree}
use Rattle.pig_typed.specs.Products.{joined}
use Rattle.pig_nested.proofs.JoinedLaws.{joined_none}
use Rattle.pig_nested.proofs.joining.with_each.Goals as goal

pub returns : goal.returns
returns c =
    let rows = rows_tree c.in_ok-rows.rows in
    ap (λ tail. joined rows (row_tree tail ∷ [])) c.new-tail.ensures ∙ joined_none rows ∙ c.in_ok-rows.ensures
