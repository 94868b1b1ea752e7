use Rattle.std.proofs.Common.{◌≡◌, List, take, ◌∙◌, ap, rules}
use Rattle.std.specs.Prelude.{Option}
use Rattle.pig_value.specs.declared.inputs.Input.{Input}
use Rattle.pig_physical.specs.Handed.{form_of, outs_of}
use Rattle.pig_physical.specs.Outs.{o_rows}
use Rattle.pig_physical.specs.Seen.{map_task_of, staged}
use Rattle.pig_map.specs.Choosing.{AreLent, chosen_rows}
use Rattle.pig_map.proofs.LentRows.{lent_run}
use Rattle.pig_map.proofs.lent.lent_first.Goals as goal

pub returns : goal.returns
returns c =
    let s = staged c.args.work.now.stages.now in
    let outs = outs_of c.args.work.now.prior.now in
    let task = map_task_of s c.args.work.now.task.now in
    let lent = c.in-Some.lent in
    let are : (told : Option (List Input)) → AreLent s told outs task lent.rows.now lent.chosen = search rules in
    let first : c.in-Some-2.first ≡ take c.args.count (chosen_rows lent.chosen lent.rows.now) = search rules in
    λ told.
    lent_run s told outs task lent.chosen lent.rows.now (are told) (λ rows. form_of c.rows_with.result.form ≡ o_rows (take c.args.count rows)) c.rows_with.result.lines
    c.rows_with.result.unmet (c.rows_with.ensures.form ∙ ap o_rows first) c.rows_with.ensures.lines c.rows_with.ensures.unmet
