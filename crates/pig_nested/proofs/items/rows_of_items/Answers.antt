use Rattle.std.proofs.Common.{◌≡◌, ◌∙◌, sym, map, true}
use Rattle.std.proofs.lemmas.Result.{IfOk-weaker}
use Rattle.pig_value.specs.Trees.{row_tree, rows_tree}
use Rattle.pig_typed.specs.Blocks.{item_lists}
use Rattle.pig_typed.specs.Products.{product}
use Rattle.pig_typed.specs.Typed.{item_typed}
use Rattle.pig_nested.specs.Joinings.{are_plain}
use Rattle.pig_nested.proofs.JoinedLaws.{plain_product}
use Rattle.pig_nested.proofs.items.rows_of_items.Goals as goal

pub returns-then-is_plain : goal.returns-then-is_plain
returns-then-is_plain c =
    let items = map item_typed c.args.items.now in
    let plain : are_plain (map item_typed c.args.items.now) ≡ true = sym c.is_plain.ensures ∙ c.if-is_plain.true in
    IfOk-weaker c.one_row_of.result _
    (λ rows. rows_tree rows ≡ product (map (λ item. item_lists item (row_tree c.args.row.now) (row_tree c.args.locals)) (map item_typed c.args.items.now)))
    (λ rows same. same ∙ sym (plain_product items (row_tree c.args.row.now) (row_tree c.args.locals) plain)) c.one_row_of.ensures
