use Rattle.std.proofs.Common.{◌∙◌, ap, take}
use Rattle.std.proofs.lemmas.Result.{on_ok_weaker}
use Rattle.pig_packed.specs.Growth.{and_rows}
use Rattle.pig_operators.proofs.SortEntries.{ordered_is}
use Rattle.pig_operators.proofs.Stretches.{first_rows, sorted_out}
use Rattle.pig_gather.proofs.whole.add_limited.Goals as goal

pub returns-clause-rows : goal.returns-clause-rows
returns-clause-rows c =
    on_ok_weaker c.add_between.result
    (λ added. added ∙ ap (λ rows. and_rows rows c.args.built.now) (first_rows c.args.entries.now c.args.count c.len.result c.min.result c.len.ensures.count c.min.ensures)) c.add_between.ensures

pub returns-clause-order : goal.returns-clause-order
returns-clause-order c keys is =
    let run = c.args.entries.now in
    on_ok_weaker c.add_between.result
    (λ added. added
    ∙ ap (λ rows. and_rows rows c.args.built.now)
    (first_rows run c.args.count c.len.result c.min.result c.len.ensures.count c.min.ensures ∙ ap (take c.args.count) (ordered_is keys run is (sorted_out run.dirs run.entries c.len.ensures.sorted)))) c.add_between.ensures
