use Rattle.std.proofs.Common.{◌≡◌, ◌<◌, ◌∙◌, arith, get_or, length}
use Rattle.std.proofs.lemmas.List.{length-map}
use Rattle.pig_value.proofs.list_laws.Listing.{each_weaker}
use Rattle.pig_plan.proofs.Lower.{names_lower}
use Rattle.pig_plan.specs.Nodes.{inputs_of}
use Rattle.pig_plan.specs.Plans.{node_of, plan_of}
use Rattle.pig_plain.proofs.Marking.{late_more, mark_is, node_at}
use Rattle.pig_plain.proofs.uses.last_uses.Goals as goal

pub nodes-init : goal.nodes-init
nodes-init c = (omega arith, c.in_ok-ends.ensures, λ j k node below found live named. absurd (omega (arith, below)))

pub raise_where-requires-clause-lower : goal.raise_where-requires-clause-lower
raise_where-requires-clause-lower c =
    let nodes = c.args.nodes.now in
    let i = c.nodes.number in
    let within : i < length nodes = c.nodes-test.true in
    let size : length c.nodes.ends.items ≡ length nodes = c.nodes.invariant.1 in
    let node = node_of (get_or nodes i c.index-nodes-number.result) in
    each_weaker (λ j. j < i) (λ j. j < length c.nodes.ends.items) (λ j low. omega (arith, low, within, size)) (inputs_of node.op)
    (names_lower (plan_of nodes) c.requires.valid i node (node_at nodes i c.index-nodes-number.result within))

pub nodes-preserved : goal.nodes-preserved
nodes-preserved c =
    let nodes = c.args.nodes.now in
    let i = c.nodes.number in
    let within : i < length nodes = c.nodes-test.true in
    let inside : i < length (plan_of nodes) = let e = length-map nodes node_of in omega (arith, within, e) in
    let told = c.in_ok-raise_where.ensures in (
      omega (arith, within),
      told.size ∙ c.nodes.invariant.1,
      late_more (plan_of nodes) i (node_of (get_or nodes i c.index-nodes-number.result)) (node_at nodes i c.index-nodes-number.result within)
          c.is_live-lives.result (c.is_live-lives.ensures ∙ mark_is (plan_of nodes) c.args.live.now i c.requires.live inside)
          c.nodes.ends.items c.raise_where.new.ends.items told.each c.nodes.invariant.2,
    )
