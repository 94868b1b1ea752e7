use Rattle.std.proofs.Common.{◌≡◌, ◌∙◌, ap, rules}
use Rattle.pig_value.specs.Orders.{row_cmp}
use Rattle.pig_value.specs.Trees.{rows_tree}
use Rattle.pig_value.proofs.OrderLaws.{row_total, row_same}
use Rattle.pig_nested.specs.Apart.{apart}
use Rattle.pig_nested.proofs.DistinctSorted.{distinct_sorted}
use Rattle.pig_nested.proofs.distinct.distinct_rows.Goals as goal

pub returns : goal.returns
returns c =
    let kept : rows_tree c.from_vec.result ≡ apart row_cmp (rows_tree c.bag-sorted.result) = search rules in
    kept ∙ ap (apart row_cmp) c.bag-sorted.ensures ∙ distinct_sorted row_cmp row_total row_same (rows_tree c.args.rows)
