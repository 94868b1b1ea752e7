use Rattle.std.proofs.Common.{rules, ◌≡◌, ◌≤◌, ◌<◌, ◌+◌, ◌∙◌, Some, true, ap, sym, refl, arith}
use Rattle.pig_stream.specs.Ranges.{rows_of_lines}
use Rattle.pig_map.specs.Reading.{rows_coming}
use Rattle.pig_map.proofs.Feeding.{fed_end, fed_next, fed_none, fed_past, range_there}
use Rattle.pig_map.proofs.reading.feed.Goals as goal

pub blocks-2-init : goal.blocks-2-init
blocks-2-init g c = (
  fed_none (g.H.Host.inputs c.args.host.now) c.args.piece.now.path.now c.args.piece.now.number c.args.from
      (rows_coming c.args.lines.now.columns.now c.args.lines.now.delim c.args.lines.now.window) c.args.steps.now
      (λ rows. g.K.Sink.after c.args.sink.now rows c.args.sink.now) (g.met.K.Sink.nothing c.args.sink.now),
  c.requires.begun,
  c.requires.fresh.literals,
  refl,
  refl,
  omega arith,
  refl,
)

pub returns-then-is_past : goal.returns-then-is_past
returns-then-is_past g c = record {
  made =
      fed_past (g.H.Host.inputs c.args.host.now) c.args.piece.now.path.now c.args.piece.now.number c.args.from c.blocks-2.at
      (rows_coming c.args.lines.now.columns.now c.args.lines.now.delim c.args.lines.now.window)
      (rows_coming c.blocks-2.lines.columns.now c.blocks-2.lines.delim c.blocks-2.lines.window)
      c.args.steps.now c.blocks-2.steps (λ rows. g.K.Sink.after c.args.sink.now rows c.blocks-2.sink) c.blocks-2.count
      c.blocks-2.invariant.0 c.requires.fresh.none
      (λ later. ap (rows_of_lines c.blocks-2.lines.columns.now c.blocks-2.lines.delim) (c.if-is_past.ensures.none refl later));
  stopped = search rules;
  same_kept = c.blocks-2.invariant.6;
  read = search rules;
}

pub feed_block-requires-clause-range : goal.feed_block-requires-clause-range
feed_block-requires-clause-range g c x is =
    let told : g.H.Host.inputs c.args.host.now ≡ Some x = sym c.blocks-2.invariant.3 ∙ is in
    let low : c.blocks-2.at < c.args.piece.now.length = search rules in
    range_there c.args.piece.now.path.now c.args.piece.now.number c.blocks-2.at c.block_at-size.result c.args.piece.now.length x
    (c.requires.long x told) low c.block_at-size.ensures.within

pub blocks-2-preserved : goal.blocks-2-preserved
blocks-2-preserved g c =
    let size : c.from.result ≡ c.block_at-size.result = search rules in
    let faults : g.H.Host.faults c.blocks-2.host ≤ g.H.Host.faults c.feed_block.new.host = c.feed_block.ensures.read.cause.later in
    let before : g.H.Host.faults c.args.host.now ≤ g.H.Host.faults c.blocks-2.host = c.blocks-2.invariant.5 in (
      fed_next (g.H.Host.inputs c.args.host.now) c.args.piece.now.path.now c.args.piece.now.number (g.H.Host.inputs c.blocks-2.host)
          c.args.from c.blocks-2.at (c.blocks-2.at + c.block_at-size.result) (c.blocks-2.at + c.from.result)
          (rows_coming c.args.lines.now.columns.now c.args.lines.now.delim c.args.lines.now.window)
          (rows_coming c.blocks-2.lines.columns.now c.blocks-2.lines.delim c.blocks-2.lines.window)
          (rows_coming c.feed_block.new.lines.columns.now c.feed_block.new.lines.delim c.feed_block.new.lines.window)
          c.args.steps.now c.blocks-2.steps c.feed_block.new.steps
          (λ rows. g.K.Sink.after c.args.sink.now rows c.blocks-2.sink) (λ rows. g.K.Sink.after c.blocks-2.sink rows c.feed_block.new.sink)
          (λ rows. g.K.Sink.after c.args.sink.now rows c.feed_block.new.sink)
          c.blocks-2.count c.in_ok-came.came c.in_ok-count.count
          c.blocks-2.invariant.3 (ap (λ n. c.blocks-2.at + n) size) c.in_ok-count.ensures
          (λ xs ys. g.met.K.Sink.onwards c.args.sink.now c.blocks-2.sink c.feed_block.new.sink xs ys)
          c.blocks-2.invariant.0 c.in_ok-came.ensures.fed,
      c.in_ok-came.ensures.open,
      c.in_ok-came.ensures.literals,
      c.feed_block.ensures.read.same_inputs ∙ c.blocks-2.invariant.3,
      c.feed_block.ensures.read.same_begun ∙ c.blocks-2.invariant.4,
      omega (arith, faults, before),
      c.is_won.ensures.kept ∙ c.blocks-2.invariant.6,
    )

pub returns : goal.returns
returns g c =
    let low : c.args.piece.now.length ≤ c.blocks-2.at = search rules in
    let ended : c.drive.new.source.window.ended ≡ true = ap (λ k. k.0) c.drive.ensures.kept ∙ c.end.ensures.ended in
    record {
      made =
          fed_end (g.H.Host.inputs c.args.host.now) c.args.piece.now.path.now c.args.piece.now.number c.args.from c.blocks-2.at c.args.piece.now.length
          (rows_coming c.args.lines.now.columns.now c.args.lines.now.delim c.args.lines.now.window)
          (rows_coming c.blocks-2.lines.columns.now c.blocks-2.lines.delim c.blocks-2.lines.window)
          (rows_coming c.blocks-2.lines.columns.now c.blocks-2.lines.delim c.end.new.self)
          (rows_coming c.drive.new.source.columns.now c.drive.new.source.delim c.drive.new.source.window)
          c.args.steps.now c.blocks-2.steps c.drive.new.steps
          (λ rows. g.K.Sink.after c.args.sink.now rows c.blocks-2.sink) (λ rows. g.K.Sink.after c.blocks-2.sink rows c.drive.new.sink)
          (λ rows. g.K.Sink.after c.args.sink.now rows c.drive.new.sink)
          c.blocks-2.count c.in_ok-came-2.came c.in_ok-sum.field-0
          (λ xs ys. g.met.K.Sink.onwards c.args.sink.now c.blocks-2.sink c.drive.new.sink xs ys)
          c.blocks-2.invariant.0 c.requires.fresh.none c.requires.long low
          (λ later. ap (rows_of_lines c.blocks-2.lines.columns.now c.blocks-2.lines.delim) (c.end.ensures.lines later))
          c.in_ok-came-2.ensures.taken
          (λ later. ap (rows_of_lines c.drive.new.source.columns.now c.drive.new.source.delim) (c.in_ok-came-2.ensures.dry ended later))
          c.in_ok-sum.ensures;
      stopped = search rules;
      same_kept = c.blocks-2.invariant.6;
      read = search rules;
    }
