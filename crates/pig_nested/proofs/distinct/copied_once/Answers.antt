use Rattle.std.proofs.Common.{◌≡◌, ◌∙◌, ap, map, sym}
use Rattle.std.proofs.lemmas.Result.{IfOk-weaker}
use Rattle.std.proofs.lemmas.Simd.{map-map}
use Rattle.pig_value.specs.Orders.{bag_of, row_cmp}
use Rattle.pig_value.specs.Sorts.{distinct}
use Rattle.pig_value.specs.Trees.{row_tree, rows_tree}
use Rattle.pig_value.proofs.OrderLaws.{row_total, row_same}
use Rattle.pig_nested.specs.Apart.{apart}
use Rattle.pig_nested.proofs.DistinctSorted.{distinct_sorted}
use Rattle.pig_nested.proofs.distinct.copied_once.Goals as goal

pub returns : goal.returns
returns c =
    let seen = ap (map (λ row. row_tree row.now)) c.as_slice-2.ensures.value in
    let lent = sym (map-map row_tree (λ row. row.now) c.in_ok-refs.field-0.items) ∙ ap rows_tree (c.in_ok-refs.ensures ∙ c.as_slice.ensures) in
    IfOk-weaker c.copied_last.result _ (λ made. rows_tree made ≡ distinct row_cmp (rows_tree c.args.rows.now))
    (λ made same. same ∙ ap (apart row_cmp) (seen ∙ c.sorted_refs-sorted.ensures ∙ ap bag_of lent) ∙ distinct_sorted row_cmp row_total row_same (rows_tree c.args.rows.now))
    c.copied_last.ensures
