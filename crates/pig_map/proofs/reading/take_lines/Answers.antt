use Rattle.std.proofs.lemmas.Option.{IfSome_then}
use Rattle.std.proofs.lemmas.Result.{MatchResult-weaker}
use Rattle.pig_map.proofs.Leaving.{leaves_as}
use Rattle.pig_map.proofs.Splitting.{split_taken}
use Rattle.pig_map.proofs.reading.take_lines.Goals as goal

pub returns : goal.returns
returns g c =
    leaves_as g.H.Host.inputs g.H.Host.begun g.H.Host.faults g.S.Stop.kept g.S.Stop.won c.args.host.now c.args.stop.now
    c.feed-came.new.host c.feed-came.new.stop c.feed-came.result _ _ c.feed-came.ensures
    (MatchResult-weaker c.feed-came.result c.feed-came.ensures.made
    (λ o some. IfSome_then o some (λ count fed.
    split_taken (g.H.Host.inputs c.args.host.now) c.args.piece.now.path.now c.args.split c.args.load.now.columns.now c.args.load.now.delim
    c.window_of.result c.args.piece.now.number c.first_place-from.result c.args.steps.now c.feed-came.new.steps
    (λ rows. g.K.Sink.after c.args.sink.now rows c.feed-came.new.sink) count
    c.window_of.ensures.lines c.requires.piece c.first_place-from.ensures fed))
    (λ e none. none))
