use Rattle.std.proofs.Common.{rules, sym, ◌∙◌, ◌≡◌, ◌++◌, ◌∷◌, [], length}
use Rattle.std.proofs.lemmas.List.{length-map}
use Rattle.pig_plan.specs.Plans.{node_of, plan_of}
use Rattle.pig_moves.specs.Pushed.{IsNext}
use Rattle.pig_moves.proofs.Steps.{cleared_all, cleared_next}
use Rattle.pig_push.proofs.clearing.cleared.Goals as goal

pub loop-own-preserved : goal.loop-own-preserved
loop-own-preserved c =
    let next : IsNext (plan_of c.as_slice-nodes.result.now) c.loop-own.own (node_of c.in_ok-node.node) = search rules in
    let is : plan_of c.push_node.new.made ≡ plan_of c.loop-own.made ++ node_of c.in_ok-node.node ∷ [] = search rules in
    cleared_next (plan_of c.as_slice-nodes.result.now) (plan_of c.loop-own.made) (plan_of c.push_node.new.made) c.loop-own.own (node_of c.in_ok-node.node) c.loop-own.invariant next is

pub returns : goal.returns
returns c =
    let whole : c.loop-own.own ≡ length c.args.plan.now = search rules in
    cleared_all (plan_of c.args.plan.now) (plan_of c.loop-own.made) c.loop-own.own (whole ∙ sym (length-map c.args.plan.now node_of)) (search rules)
