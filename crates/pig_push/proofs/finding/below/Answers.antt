use Rattle.std.proofs.Common.{rules, ◌≡◌, ◌∙◌, ap, sym, true}
use Rattle.std.specs.Prelude.{Some, slice_get, refl, length}
use Rattle.std.proofs.lemmas.Option.{slice_get_read}
use Rattle.pig_typed.specs.Typed.{typed}
use Rattle.pig_plan.specs.Meaning.{width_at}
use Rattle.pig_plan.specs.Nodes.{IsOnlyUse, names}
use Rattle.pig_plan.specs.Plans.{node_of, op_of, p_filter, plan_of}
use Rattle.pig_moves.specs.Pushed.{all_pass}
use Rattle.pig_moves.proofs.Change.{itself}
use Rattle.pig_moves.proofs.Steps.{can_move, node_there}
use Rattle.pig_push.specs.Lone.{is_shared}
use Rattle.pig_push.proofs.LoneReaders.{only_of_lone, unshared}
use Rattle.pig_push.proofs.finding.below.Goals as goal

pub returns : goal.returns
returns c =
    let same : c.as_slice-nodes.result.now ≡ c.args.plan.now = search rules in
    let at : slice_get c.args.plan.now c.args.high ≡ Some c.in-Some.node.now =
    ap (λ ns. slice_get ns c.args.high) (sym same)
    ∙ slice_get_read c.as_slice-nodes.result.now (length c.as_slice-nodes.result.now) c.args.high c.in-Some.node.now refl c.in-Some.ensures.lookup.3.0 c.in-Some.ensures.lookup.1 in
    let is : (node_of c.in-Some.node.now).op ≡ p_filter c.in-Filter.input (typed c.in-Filter.cond) = ap op_of c.in-Filter.is in
    let under : slice_get c.args.plan.now c.in-Filter.input ≡ Some c.in-Some-get.under.now =
    ap (λ ns. slice_get ns c.in-Filter.input) (sym same)
    ∙ slice_get_read c.as_slice-nodes.result.now (length c.as_slice-nodes.result.now) c.in-Filter.input c.in-Some-get.under.now refl c.in-Some-get.ensures.lookup.3.0 c.in-Some-get.ensures.lookup.1 in
    let passes : all_pass (width_at (plan_of c.args.plan.now)) (node_of c.in-Some-get.under.now).op (typed c.in-Filter.cond) ≡ true = search rules in
    let lone : c.is_lone.result ≡ true = search rules in
    let name : names (node_of c.in-Some.node.now).op c.in-Filter.input ≡ true = ap (λ o. names o c.in-Filter.input) is ∙ itself c.in-Filter.input in
    let only : IsOnlyUse (plan_of c.args.plan.now) c.in-Filter.input c.args.high =
    only_of_lone (plan_of c.args.plan.now) c.in-Filter.input c.args.high (node_of c.in-Some.node.now) (node_there c.args.plan.now c.args.high c.in-Some.node.now at) name
    (c.requires c.in-Filter.input (unshared (is_shared c.args.counts.now c.in-Filter.input) c.is_lone.result c.is_lone.ensures lone)) in
    can_move c.args.plan.now c.args.high c.in-Some.node.now at c.in-Filter.input (typed c.in-Filter.cond) is c.in-Some-get.under.now under passes only
