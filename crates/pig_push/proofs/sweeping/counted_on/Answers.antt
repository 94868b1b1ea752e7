use Rattle.std.proofs.Common.{rules, ◌≡◌, ◌∙◌, ap, sym}
use Rattle.std.specs.Prelude.{Some, slice_get, refl, length}
use Rattle.std.proofs.lemmas.Option.{slice_get_read}
use Rattle.pig_plan.specs.Plans.{node_of, op_of, plan_of}
use Rattle.pig_moves.proofs.Steps.{first_of, node_there}
use Rattle.pig_push.specs.Lone.{NotBoth, NotBothBut}
use Rattle.pig_push.proofs.LoneMoves.{counted_none, counted_some}
use Rattle.pig_push.proofs.sweeping.counted_on.Goals as goal

pub returns-in_default-shared : goal.returns-in_default-shared
returns-in_default-shared c =
    let same : c.as_slice-nodes.result.now ≡ c.args.plan.now = search rules in
    let at : slice_get c.args.plan.now c.args.low ≡ Some c.in-Some-Some.lower.now =
    ap (λ ns. slice_get ns c.args.low) (sym same)
    ∙ slice_get_read c.as_slice-nodes.result.now (length c.as_slice-nodes.result.now) c.args.low c.in-Some-Some.lower.now refl c.in-Some-Some.ensures.lookup.3.0 c.in-Some-Some.ensures.lookup.1 in
    let there : slice_get c.args.plan.now c.args.high ≡ Some c.in-Some-Some.upper.now =
    ap (λ ns. slice_get ns c.args.high) (sym same)
    ∙ slice_get_read c.as_slice-nodes.result.now (length c.as_slice-nodes.result.now) c.args.high c.in-Some-Some.upper.now refl c.in-Some-Some.ensures'.lookup.3.0 c.in-Some-Some.ensures'.lookup.1 in
    let none : NotBoth (op_of c.in-Some-Some.lower.now.op) (op_of c.in-Some-Some.upper.now.op) =
    first_of (λ i. NotBothBut i (op_of c.in-Some-Some.lower.now.op) (op_of c.in-Some-Some.upper.now.op)) c.in_ok-shared.shared c.in_ok-shared.ensures (λ x e. c.in_default-shared.not-Some x e) in
    counted_none (plan_of c.args.plan.now) c.args.counts.items c.args.counts.items c.args.low c.args.high (node_of c.in-Some-Some.lower.now) (node_of c.in-Some-Some.upper.now)
    (node_there c.args.plan.now c.args.low c.in-Some-Some.lower.now at) (node_there c.args.plan.now c.args.high c.in-Some-Some.upper.now there) none refl

pub returns : goal.returns
returns c =
    let same : c.as_slice-nodes.result.now ≡ c.args.plan.now = search rules in
    let at : slice_get c.args.plan.now c.args.low ≡ Some c.in-Some-Some.lower.now =
    ap (λ ns. slice_get ns c.args.low) (sym same)
    ∙ slice_get_read c.as_slice-nodes.result.now (length c.as_slice-nodes.result.now) c.args.low c.in-Some-Some.lower.now refl c.in-Some-Some.ensures.lookup.3.0 c.in-Some-Some.ensures.lookup.1 in
    let there : slice_get c.args.plan.now c.args.high ≡ Some c.in-Some-Some.upper.now =
    ap (λ ns. slice_get ns c.args.high) (sym same)
    ∙ slice_get_read c.as_slice-nodes.result.now (length c.as_slice-nodes.result.now) c.args.high c.in-Some-Some.upper.now refl c.in-Some-Some.ensures'.lookup.3.0 c.in-Some-Some.ensures'.lookup.1 in
    let but : NotBothBut c.in-Some.input (op_of c.in-Some-Some.lower.now.op) (op_of c.in-Some-Some.upper.now.op) = search rules in
    counted_some (plan_of c.args.plan.now) c.args.counts.items c.in_ok-new.new.items c.args.low c.args.high c.in-Some.input (node_of c.in-Some-Some.lower.now) (node_of c.in-Some-Some.upper.now)
    (node_there c.args.plan.now c.args.low c.in-Some-Some.lower.now at) (node_there c.args.plan.now c.args.high c.in-Some-Some.upper.now there) but c.in_ok-new.ensures
