use Rattle.std.proofs.Common.{◌≡◌, ◌∙◌, ap, take}
use Rattle.std.proofs.lemmas.Result.{IfOk-weaker}
use Rattle.pig_value.specs.Trees.{rows_tree}
use Rattle.pig_nested.proofs.Forms.{first_taken}
use Rattle.pig_nested.proofs.steps.first.Goals as goal

pub returns : goal.returns
returns c =
    let rows = c.as_slice-rows.result.now in
    let count = c.args.count in
    IfOk-weaker c.copied.result _ (λ kept. rows_tree kept ≡ take count (rows_tree c.args.rows.now))
    (λ kept same. ap rows_tree (same ∙ c.front.ensures) ∙ first_taken rows c.min-end.result count c.min-end.ensures ∙ ap (λ l. take count (rows_tree l)) c.as_slice-rows.ensures)
    c.copied.ensures
