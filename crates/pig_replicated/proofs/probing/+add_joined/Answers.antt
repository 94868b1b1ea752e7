use Rattle.std.proofs.Common.{◌≡◌, ◌++◌, ◌∷◌, ◌+◌, drop, length, map, refl, sym, ◌∙◌, ap}
use Rattle.std.proofs.lemmas.Option.{slice_get_read}
use Rattle.pig_value.specs.Trees.{row_tree, rows_tree, tree}
use Rattle.pig_value.proofs.list_laws.Indexing.{dropped}
use Rattle.pig_typed.specs.Products.{joined, product}
use Rattle.pig_replicated.specs.Holding.{matches_in}
use Rattle.pig_replicated.proofs.Adding.{added_one, behind}
use Rattle.pig_replicated.proofs.probing.+add_joined.Goals as goal

pub loop-row-preserved : goal.loop-row-preserved
loop-row-preserved _ c =
    let rest = product (map (λ s. matches_in s (tree c.args.key.now)) c.in-Some.rest.now) in
    let items = c.as_slice-row-items.result.now in
    let next = c.loop-row.row-index + 1 in
    let seam : drop c.loop-row.row-index items ≡ c.row-item.result ∷ drop next items =
    dropped items c.loop-row.row-index c.row-item.result (slice_get_read items (length items) c.loop-row.row-index c.row-item.result refl c.loop-row-test.true c.row-item.is)
    in
    added_one c.args.front c.row-item.result c.in_ok-behind.field-0 (rows_tree (drop next items)) rest (rows_tree c.loop-row.rows) (rows_tree c.add_joined.new.rows) _ c.in_ok-behind.ensures
    (ap (λ left. rows_tree c.loop-row.rows ++ behind (row_tree c.args.front) (joined (rows_tree left) rest)) (sym seam) ∙ c.loop-row.invariant) c.in_ok-add_joined.ensures
