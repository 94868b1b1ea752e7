use Rattle.std.proofs.Common.{rules, ◌≡◌, ◌<◌, ◌^◌, ◌∙◌, ap, length, sym}
use Rattle.std.proofs.lemmas.List.{length-map}
use Rattle.std.specs.Option.{option_map}
use Rattle.pig_value.specs.Trees.{row_tree, rows_tree}
use Rattle.pig_value.proofs.list_laws.Indexing.{get_map}
use Rattle.pig_rank.specs.Ranks.{first_row}
use Rattle.pig_rank.specs.Walks.{and_rows, nothing, passed_start}
use Rattle.pig_rank.proofs.Steps.{summed}
use Rattle.pig_rank.proofs.summing.sum_up.Goals as goal

pub returns : goal.returns
returns c = λ sorted.
    let keys = c.args.keys.now in
    let same : c.as_slice-rows.result.now ≡ c.args.rows.now = c.as_slice-rows.ensures in
    let below : length c.as_slice-rows.result.now < 2 ^ 64 = search rules in
    let size : length c.as_slice-rows.result.now ≡ length (rows_tree c.args.rows.now) = ap length same ∙ sym (length-map c.args.rows.now row_tree) in
    let passed_is : passed_start c.pass-passed.result ≡ and_rows keys nothing (rows_tree c.args.rows.now) =
    c.pass-passed.ensures ∙ (λ i. and_rows keys (c.nothing.ensures i) (rows_tree (same i))) in
    let first_is : option_map row_tree c.in_ok-copy_found.field-0 ≡ first_row (rows_tree c.args.rows.now) =
    ap (option_map row_tree) (c.in_ok-copy_found.ensures ∙ c.first.ensures.value) ∙ sym (get_map row_tree c.as_slice-rows.result.now 0) ∙ ap (λ rows. first_row (rows_tree rows)) same in
    summed keys (rows_tree c.args.rows.now) (passed_start c.pass-passed.result) (length c.as_slice-rows.result.now) (option_map row_tree c.in_ok-copy_found.field-0)
    (option_map row_tree c.in_ok-copy_found-2.field-0) sorted below size passed_is first_is (ap (option_map row_tree) c.in_ok-copy_found-2.ensures)
