use Rattle.std.proofs.Common.{◌≡◌, ◌∙◌, Some, None, ap, length, map, rules, sym, subst}
use Rattle.std.specs.Option.{option_map}
use Rattle.pig_plan.specs.Nodes.{op_at}
use Rattle.pig_plan.specs.Operators.{pieces_of}
use Rattle.pig_plan.specs.Plans.{op_of}
use Rattle.pig_physical.specs.Handed.{outs_of}
use Rattle.pig_physical.specs.Seen.{staged}
use Rattle.pig_map.specs.Making.{HasTakenPart, load_of, load_parts}
use Rattle.pig_map.specs.Reading.{IsLong}
use Rattle.pig_map.proofs.Leaving.{leaves_all}
use Rattle.pig_map.proofs.Runs.{no_load, no_source}
use Rattle.pig_map.proofs.Splitting.{piece_long}
use Rattle.pig_map.proofs.parts.take_part.Goals as goal

pub take_lines-requires-clause-long : goal.take_lines-requires-clause-long
take_lines-requires-clause-long g c inputs told =
    let lengths = (staged c.args.work.now.stages.now).sizing.lengths in
    let path = c.in-Some-as_load.load.path.now in
    let are : map length (pieces_of inputs path) ≡ lengths path = search rules in
    subst (λ path. IsLong path c.piece_of-piece.result.number c.piece_of-piece.result.length inputs) (sym c.piece_of-piece.ensures.path)
    (subst (λ k. IsLong path k c.piece_of-piece.result.length inputs) (sym c.piece_of-piece.ensures.number)
    (subst (λ n. IsLong path c.in-Split.split.piece n inputs) (sym c.piece_of-piece.ensures.length)
    (piece_long inputs path c.in-Split.split.piece (lengths path) are)))

pub returns-in_default : goal.returns-in_default
returns-in_default g c =
    let is : op_at (staged c.args.work.now.stages.now).plan c.args.source ≡ None =
    sym c.operator.ensures.op ∙ ap (option_map (λ op. op_of op.now)) c.in_default.is in
    leaves_all g.H.Host.inputs g.H.Host.begun g.H.Host.faults g.S.Stop.kept g.S.Stop.won c.args.host.now c.args.stop.now _ 0
    (no_source (staged c.args.work.now.stages.now) (g.H.Host.inputs c.args.host.now) (outs_of c.args.work.now.prior.now) c.args.source c.args.work.now.task.now.part c.args.steps.now
    (λ rows. g.K.Sink.after c.args.sink.now rows c.args.sink.now) is c.requires.fresh.none (g.met.K.Sink.nothing c.args.sink.now))

pub returns-in_default-as_load : goal.returns-in_default-as_load
returns-in_default-as_load g c =
    let is : op_at (staged c.args.work.now.stages.now).plan c.args.source ≡ Some (op_of c.in-Some.op.now) =
    sym c.operator.ensures.op ∙ ap (option_map (λ op. op_of op.now)) c.in-Some.is in
    let none : None ≡ load_of (op_of c.in-Some.op.now) =
    sym (ap (option_map (λ load. load_parts load.path.now load.delim load.columns.now)) c.in_default-as_load.is) ∙ c.as_load.ensures in
    leaves_all g.H.Host.inputs g.H.Host.begun g.H.Host.faults g.S.Stop.kept g.S.Stop.won c.args.host.now c.args.stop.now _ 0
    (subst
    (λ part. HasTakenPart (staged c.args.work.now.stages.now) (g.H.Host.inputs c.args.host.now) (outs_of c.args.work.now.prior.now) c.args.source part
    c.args.steps.now c.args.steps.now (λ rows. g.K.Sink.after c.args.sink.now rows c.args.sink.now) 0)
    (sym c.in-Split.is)
    (no_load (staged c.args.work.now.stages.now) (g.H.Host.inputs c.args.host.now) (outs_of c.args.work.now.prior.now) c.args.source (op_of c.in-Some.op.now) is
    c.in-Split.split c.args.steps.now (λ rows. g.K.Sink.after c.args.sink.now rows c.args.sink.now) none c.requires.fresh.none
    (g.met.K.Sink.nothing c.args.sink.now)))
