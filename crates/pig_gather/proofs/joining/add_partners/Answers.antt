use Rattle.std.proofs.Common.{[], ◌∷◌, ◌++◌, ◌∙◌, ap, map}
use Rattle.std.specs.List.{range_with_len}
use Rattle.std.proofs.lemmas.Result.{on_ok_weaker}
use Rattle.pig_typed.specs.Products.{product}
use Rattle.pig_packed.specs.Growth.{and_rows}
use Rattle.pig_operators.specs.Groups.{bags_at}
use Rattle.pig_operators.proofs.Products.{behind_none}
use Rattle.pig_gather.specs.Spans.{rows_in}
use Rattle.pig_gather.proofs.joining.add_partners.Goals as goal

pub returns : goal.returns
returns c =
    let run = c.args.group.now.entries.now in
    let lists = map (bags_at run c.args.group.now.from c.args.group.now.end) (range_with_len 0 c.args.inputs) in
    on_ok_weaker c.add_products.result
    (λ added. added
    ∙ ap (λ rows. and_rows rows c.args.built.now) (behind_none (product (map (rows_in run) c.as_slice.result.now)) ∙ ap product (ap (map (rows_in run)) c.as_slice.ensures.value ∙ c.in_ok-parts.ensures.bags)))
    (c.add_products.ensures.rows [] (record { is = c.in_ok-push.ensures.items ∙ ap (λ l. l ++ 6 ∷ []) c.new-front.ensures.items; values = tt }))
