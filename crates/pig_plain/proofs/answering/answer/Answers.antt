use Rattle.std.proofs.Common.{◌≡◌, ◌∙◌, ap, arith, length, map, subst}
use Rattle.std.proofs.lemmas.List.{length-map}
use Rattle.pig_value.specs.Trees.{rows_tree}
use Rattle.pig_plan.specs.Plans.{node_of, plan_of}
use Rattle.pig_plain.specs.Answering.{IsAnswer}
use Rattle.pig_plain.specs.SoFar.{IsSoFar}
use Rattle.pig_plain.proofs.Steps.{ended}
use Rattle.pig_plain.proofs.answering.answer.Goals as goal

pub returns : goal.returns
returns c =
    let nodes = c.as_slice-nodes.result.now in
    let given = c.as_slice-given.result.now in
    let table = c.nodes.so_far.table in
    let kept = c.nodes.so_far.kept in
    let stores = map rows_tree c.nodes.so_far.stores in
    let upto = c.nodes.invariant.0 in
    let past = c.nodes-test.false in
    let end : c.nodes.number ≡ length (plan_of nodes) = let e = length-map nodes node_of in omega (arith, upto, past, e) in
    let whole : plan_of nodes ≡ plan_of c.args.plan.now = ap plan_of (c.as_slice-nodes.ensures ∙ c.nodes-all.ensures.nodes) in
    subst (λ p. IsAnswer p c.args.inputs.now kept stores) whole
    (subst (λ g. IsAnswer (plan_of nodes) g kept stores) c.as_slice-given.ensures
    (ended (plan_of nodes) given table kept stores (subst (λ n. IsSoFar (plan_of nodes) given n table kept stores) end c.nodes.invariant.1)))
