use Rattle.std.proofs.Common.{rules, ◌≡◌, ◌<◌, ◌∙◌, ap, length, sym}
use Rattle.std.specs.Prelude.{Some, slice_get, refl}
use Rattle.std.proofs.lemmas.Option.{slice_get_read}
use Rattle.pig_plan.specs.Plans.{node_of}
use Rattle.pig_moves.proofs.Steps.{node_there}
use Rattle.pig_moves.proofs.Unites.{none_above}
use Rattle.pig_push.proofs.uniting.node_above.Goals as goal

pub returns : goal.returns
returns c =
    let same : c.as_slice-nodes.result.now ≡ c.args.plan.now = search rules in
    let at : slice_get c.args.plan.now c.args.high ≡ Some c.in-Some.above.now =
    ap (λ ns. slice_get ns c.args.high) (sym same)
    ∙ slice_get_read c.as_slice-nodes.result.now (length c.as_slice-nodes.result.now) c.args.high c.in-Some.above.now refl c.in-Some.ensures.lookup.3.0 c.in-Some.ensures.lookup.1 in
    let copied : node_of c.in_ok-copied.copied ≡ node_of c.in-Some.above.now = search rules in
    let higher : c.args.number < c.args.high = search rules in
    record {
      stands = node_there c.args.plan.now c.args.high c.in-Some.above.now at ∙ ap Some (sym copied);
      higher = higher;
      unread = none_above c.args.plan.now c.as_slice-nodes.result.now c.args.number c.args.high same (c.is_unread.ensures (search rules));
    }
