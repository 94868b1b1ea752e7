use Rattle.std.proofs.Common.{◌≡◌, ◌++◌, ◌∷◌, ◌+◌, drop, length, map, refl, sym, ◌∙◌, ap}
use Rattle.std.proofs.lemmas.Option.{slice_get_read}
use Rattle.pig_value.specs.Trees.{row_tree, rows_tree}
use Rattle.pig_value.proofs.list_laws.Indexing.{dropped}
use Rattle.pig_typed.specs.Products.{joined, product}
use Rattle.pig_operators.proofs.Products.{behind_fields, products_more}
use Rattle.pig_operators.proofs.joining.+add_products.Goals as goal

pub loop-row-preserved : goal.loop-row-preserved
loop-row-preserved _ c =
    let rest = product (map rows_tree c.in-Some.rest.now) in
    let items = c.as_slice-row-items.result.now in
    let seam : drop c.loop-row.row-index items ≡ c.row-item.result ∷ drop (c.loop-row.row-index + 1) items =
    dropped items c.loop-row.row-index c.row-item.result (slice_get_read items (length items) c.loop-row.row-index c.row-item.result refl c.loop-row-test.true c.row-item.is)
    in
    products_more c.args.front c.row-item.result c.in_ok-joined.field-0 (rows_tree (drop (c.loop-row.row-index + 1) items)) rest (rows_tree c.loop-row.rows) (rows_tree c.add_products.new.rows) _ c.in_ok-joined.ensures
    (ap (λ l. rows_tree c.loop-row.rows ++ behind_fields (row_tree c.args.front) (joined (rows_tree l) rest)) (sym seam) ∙ c.loop-row.invariant) c.in_ok-add_products.ensures
