use Rattle.std.proofs.Common.{◌≡◌, List, ◌∙◌, ap, rules}
use Rattle.std.specs.Prelude.{Option}
use Rattle.pig_value.specs.declared.inputs.Input.{Input}
use Rattle.pig_value.specs.Texts.{rows_text}
use Rattle.pig_physical.specs.Handed.{form_of, outs_of}
use Rattle.pig_physical.specs.Outs.{o_bytes}
use Rattle.pig_physical.specs.Seen.{map_task_of, staged}
use Rattle.pig_map.specs.Choosing.{AreLent}
use Rattle.pig_map.proofs.LentRows.{lent_run}
use Rattle.pig_map.proofs.lent.lent_text.Goals as goal

pub returns : goal.returns
returns c =
    let s = staged c.args.work.now.stages.now in
    let outs = outs_of c.args.work.now.prior.now in
    let task = map_task_of s c.args.work.now.task.now in
    let lent = c.in-Some.lent in
    let are : (told : Option (List Input)) → AreLent s told outs task lent.rows.now lent.chosen = search rules in
    λ told.
    lent_run s told outs task lent.chosen lent.rows.now (are told) (λ rows. form_of c.text_with.result.form ≡ o_bytes (rows_text c.args.delim rows)) c.text_with.result.lines
    c.text_with.result.unmet (c.text_with.ensures.form ∙ ap o_bytes c.in_ok-text.ensures) c.text_with.ensures.lines c.text_with.ensures.unmet
