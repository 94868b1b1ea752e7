use Rattle.std.proofs.Common.{rules, ◌≡◌, ◌<◌, ap, arith, length, map, not, sym, ◌∙◌}
use Rattle.std.specs.Prelude.{Some, slice_get, refl}
use Rattle.std.specs.List.{filter}
use Rattle.std.proofs.lemmas.List.{length-map}
use Rattle.std.proofs.lemmas.Option.{slice_get_read}
use Rattle.pig_typed.specs.Typed.{typed}
use Rattle.pig_plan.specs.Conjuncts.{conjuncts}
use Rattle.pig_plan.specs.Meaning.{width_at}
use Rattle.pig_plan.specs.Plans.{node_of, op_of, p_filter, plan_of}
use Rattle.pig_moves.specs.Pushed.{chained, passes_at}
use Rattle.pig_moves.proofs.Steps.{parts_of}
use Rattle.pig_push.proofs.splitting.parts.Goals as goal

pub returns : goal.returns
returns c =
    let same : c.as_slice-nodes.result.now ≡ c.args.plan.now = search rules in
    let at : slice_get c.args.plan.now c.args.number ≡ Some c.in-Some.node.now =
    ap (λ ns. slice_get ns c.args.number) (sym same)
    ∙ slice_get_read c.as_slice-nodes.result.now (length c.as_slice-nodes.result.now) c.args.number c.in-Some.node.now refl c.in-Some.ensures.lookup.3.0 c.in-Some.ensures.lookup.1 in
    let is : (node_of c.in-Some.node.now).op ≡ p_filter c.in-Filter.input (typed c.in-Filter.cond) = ap op_of c.in-Filter.is in
    let under : slice_get c.args.plan.now c.in-Filter.input ≡ Some c.in-Some-get.under.now =
    ap (λ ns. slice_get ns c.in-Filter.input) (sym same)
    ∙ slice_get_read c.as_slice-nodes.result.now (length c.as_slice-nodes.result.now) c.in-Filter.input c.in-Some-get.under.now refl c.in-Some-get.ensures.lookup.3.0 c.in-Some-get.ensures.lookup.1 in
    let whole : map typed c.in_ok-all.all ≡ conjuncts (typed c.in-Filter.cond) = search rules in
    let lows : map typed c.in_ok-low.low ≡ filter (passes_at (width_at (plan_of c.args.plan.now)) (op_of c.in-Some-get.under.now.op) c.in_ok-place.place) (map typed c.in_ok-all.all) = search rules in
    let highs : map typed c.in_ok-low.high ≡ filter (λ e. not (passes_at (width_at (plan_of c.args.plan.now)) (op_of c.in-Some-get.under.now.op) c.in_ok-place.place e)) (map typed c.in_ok-all.all) = search rules in
    let low_long : length (map typed c.in_ok-low.low) ≡ length c.in_ok-low.low = length-map c.in_ok-low.low typed in
    let high_long : length (map typed c.in_ok-low.high) ≡ length c.in_ok-low.high = length-map c.in_ok-low.high typed in
    let low_some : 0 < length c.in_ok-low.low = search rules in
    let high_some : 0 < length c.in_ok-low.high = search rules in
    let low_is : typed c.in_ok-chained.field-0 ≡ chained (map typed c.in_ok-low.low) = search rules in
    let high_is : typed c.in_ok-chained-2.field-0 ≡ chained (map typed c.in_ok-low.high) = search rules in
    parts_of c.args.plan.now c.args.number c.in-Some.node.now at c.in-Filter.input (typed c.in-Filter.cond) is c.in-Some-get.under.now under c.in_ok-place.place
    (map typed c.in_ok-all.all) (map typed c.in_ok-low.low) (map typed c.in_ok-low.high) (typed c.in_ok-chained.field-0) (typed c.in_ok-chained-2.field-0)
    whole lows (omega (arith, low_some, low_long)) low_is highs (omega (arith, high_some, high_long)) high_is
