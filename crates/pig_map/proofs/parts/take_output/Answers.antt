use Rattle.std.proofs.Common.{[], ap, sym, subst, ◌∙◌, ◌≡◌}
use Rattle.std.specs.Option.{option_map_or}
use Rattle.pig_physical.specs.Handed.{outs_of}
use Rattle.pig_physical.specs.Outs.{rows_at}
use Rattle.pig_stream.proofs.Drives.{all_taken}
use Rattle.pig_stream.specs.Taking.{rows_left}
use Rattle.pig_map.specs.Making.{HasTakenRows}
use Rattle.pig_map.proofs.Runs.{none_taken}
use Rattle.pig_map.proofs.parts.take_output.Goals as goal

pub returns-in_default : goal.returns-in_default
returns-in_default g c =
    let none : [] ≡ rows_at (outs_of c.args.work.now.prior.now) c.args.wave c.args.at =
    sym (ap (λ o. option_map_or (λ rows. rows.now) o []) c.in_default.is) ∙ c.rows_of.ensures in
    subst (λ rows. HasTakenRows rows c.args.steps.now c.args.steps.now (λ rows. g.K.Sink.after c.args.sink.now rows c.args.sink.now)) none
    (record {
      count = 0;
      all = none_taken c.args.steps.now (λ rows. g.K.Sink.after c.args.sink.now rows c.args.sink.now) c.requires.none (g.met.K.Sink.nothing c.args.sink.now);
    })

pub returns : goal.returns
returns g c =
    let are : c.in-Some.rows.now ≡ rows_at (outs_of c.args.work.now.prior.now) c.args.wave c.args.at =
    sym (ap (λ o. option_map_or (λ rows. rows.now) o []) c.in-Some.is) ∙ c.rows_of.ensures in
    subst (λ rows. HasTakenRows rows c.args.steps.now c.drive.new.steps (λ rows. g.K.Sink.after c.args.sink.now rows c.drive.new.sink)) (c.of-source.ensures ∙ are)
    (record {
      count = c.in_ok-drive.field-0;
      all =
          all_taken (λ later. rows_left c.of-source.result) (λ later. rows_left c.drive.new.source) c.args.steps.now c.drive.new.steps
          (λ rows. g.K.Sink.after c.args.sink.now rows c.drive.new.sink) c.in_ok-drive.field-0
          c.in_ok-drive.ensures.taken c.requires.none (λ later. c.in_ok-drive.ensures.dry) [];
    })
