use Rattle.std.proofs.Common.{◌+◌, ◌∙◌, refl}
use Rattle.pig_stream.proofs.Drives.{nothing_taken, same_count, taken_all, taken_more}
use Rattle.pig_stream.proofs.driving.drive.Goals as goal

pub batches-init : goal.batches-init
batches-init g c = (nothing_taken (g.S.Source.coming c.args.source.now) c.args.steps.now _ (g.met.K.Sink.nothing c.args.sink.now), refl, c.requires)

pub returns-then-more-eq0-clause-taken : goal.returns-then-more-eq0-clause-taken
returns-then-more-eq0-clause-taken g c =
    same_count _ _ _ _ _ c.batches.count c.in_ok-more.more c.if-more-eq0.true
    (taken_more (g.S.Source.coming c.args.source.now) (g.S.Source.coming c.batches.source) (g.S.Source.coming c.drive_batch.new.source)
    c.args.steps.now c.batches.steps c.drive_batch.new.steps
    (λ rows. g.K.Sink.after c.args.sink.now rows c.batches.sink) (λ rows. g.K.Sink.after c.batches.sink rows c.drive_batch.new.sink) (λ rows. g.K.Sink.after c.args.sink.now rows c.drive_batch.new.sink)
    c.batches.count c.in_ok-more.more
    (λ xs ys. g.met.K.Sink.onwards c.args.sink.now c.batches.sink c.drive_batch.new.sink xs ys) c.batches.invariant.0 c.in_ok-more.ensures.taken)

pub batches-preserved : goal.batches-preserved
batches-preserved g c = (
  taken_all _ _ _ _ _ c.in-Some.sum (c.batches.count + c.in_ok-more.more) c.in-Some.ensures.1
      (taken_more (g.S.Source.coming c.args.source.now) (g.S.Source.coming c.batches.source) (g.S.Source.coming c.drive_batch.new.source)
      c.args.steps.now c.batches.steps c.drive_batch.new.steps
      (λ rows. g.K.Sink.after c.args.sink.now rows c.batches.sink) (λ rows. g.K.Sink.after c.batches.sink rows c.drive_batch.new.sink) (λ rows. g.K.Sink.after c.args.sink.now rows c.drive_batch.new.sink)
      c.batches.count c.in_ok-more.more
      (λ xs ys. g.met.K.Sink.onwards c.args.sink.now c.batches.sink c.drive_batch.new.sink xs ys) c.batches.invariant.0 c.in_ok-more.ensures.taken),
  c.drive_batch.ensures.kept ∙ c.batches.invariant.1,
  c.in_ok-more.ensures.literals,
)
