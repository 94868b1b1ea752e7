use Rattle.std.proofs.Common.{◌≡◌, ◌∙◌, ap, sym, [], ◌∷◌, rules}
use Rattle.pig_value.specs.Trees.{row_tree, rows_tree}
use Rattle.pig_typed.specs.Products.{joined}
use Rattle.pig_nested.proofs.JoinedLaws.{joined_none}
use Rattle.pig_nested.proofs.joining.finished.Goals as goal

pub returns-then-is_empty : goal.returns-then-is_empty
returns-then-is_empty c =
    let rows = rows_tree c.args.joining.rows in
    let none : c.args.joining.tail ≡ [] = search rules in
    sym (ap (λ tail. joined rows (row_tree tail ∷ [])) none ∙ joined_none rows)
