use Rattle.std.proofs.Common.{rules, ◌≡◌, ◌∙◌, ap, false, map}
use Rattle.std.proofs.lemmas.Result.{IfOk-weaker}
use Rattle.pig_plan.specs.Nodes.{is_sorted, live, sorted_marks}
use Rattle.pig_plan.specs.Plans.{plan_of}
use Rattle.pig_plan.specs.Results.{at_place}
use Rattle.pig_physical.specs.Handed.{outs_of}
use Rattle.pig_physical.specs.Running.{AreOutputs}
use Rattle.pig_collect.specs.Keeping.{chosen_in, chosen_of}
use Rattle.pig_collect.proofs.Keeps.{outputs_kept}
use Rattle.pig_collect.proofs.kept.kept.Goals as goal

pub returns : goal.returns
returns c =
    let plan = plan_of c.args.plan.now in
    let outs = outs_of c.args.outs.now in
    let numbers_are : c.as_slice.result.now ≡ live (plan_of c.args.plan.now) = search rules in
    let nodes_are : c.as_slice-nodes.result.now ≡ c.args.plan.now = search rules in
    let sorted_are : c.as_slice-2.result.now ≡ sorted_marks (plan_of c.as_slice-nodes.result.now) = search rules in
    IfOk-weaker c.all_kept.result
    (λ kept. map chosen_of kept ≡ chosen_in (at_place false c.as_slice-2.result.now) (plan_of c.as_slice-nodes.result.now) c.as_slice.result.now outs) (AreOutputs plan outs)
    (λ kept is. outputs_kept plan c.nodes.ensures.valid outs kept (is
    ∙ ap (λ marks. chosen_in (at_place false marks) (plan_of c.as_slice-nodes.result.now) c.as_slice.result.now outs) sorted_are
    ∙ ap (λ nodes. chosen_in (is_sorted (plan_of nodes)) (plan_of nodes) c.as_slice.result.now outs) nodes_are
    ∙ ap (λ ks. chosen_in (is_sorted plan) plan ks outs) numbers_are)) c.all_kept.ensures
