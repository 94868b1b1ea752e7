use Rattle.std.proofs.Common.{◌≡◌, ◌∙◌, ◌∷◌, map}
use Rattle.std.proofs.lemmas.Result.{IfOk-weaker}
use Rattle.pig_value.specs.Trees.{row_tree, rows_tree}
use Rattle.pig_typed.specs.Blocks.{item_lists}
use Rattle.pig_typed.specs.Products.{product}
use Rattle.pig_typed.specs.Typed.{item_typed}
use Rattle.pig_nested.specs.Joinings.{joining_rows}
use Rattle.pig_nested.proofs.JoinedLaws.{whole_product}
use Rattle.pig_nested.proofs.items.joined_from.Goals as goal

pub returns : goal.returns
returns c =
    let row = row_tree c.args.row.now in
    let locals = row_tree c.args.locals.now in
    let first = item_lists (item_typed c.args.first.now) row locals in
    let rest = map (λ item. item_lists item row locals) (map item_typed c.args.rest.now) in
    IfOk-weaker c.finished.result _
    (λ rows. rows_tree rows ≡ product (map (λ item. item_lists item (row_tree c.args.row.now) (row_tree c.args.locals.now)) (item_typed c.args.first.now ∷ map item_typed c.args.rest.now)))
    (λ rows same. whole_product (rows_tree rows) (joining_rows c.in_ok-begun.begun) first rest (same ∙ c.in_ok-whole.ensures) c.in_ok-begun.ensures)
    c.finished.ensures
