use Rattle.std.proofs.Common.{◌≡◌, ◌∙◌, length, subst, sym}
use Rattle.std.proofs.lemmas.List.{length-map}
use Rattle.pig_plan.specs.Plans.{node_of, plan_of}
use Rattle.pig_plain.proofs.Marking.{mark_is}
use Rattle.pig_plain.specs.Uses.{AreLate}
use Rattle.pig_plain.proofs.uses.uses_of.Goals as goal

pub returns : goal.returns
returns c =
    let plan = plan_of c.args.plan.now in
    let same : c.as_slice-nodes.result.now ≡ c.args.plan.now = c.as_slice-nodes.ensures ∙ c.nodes-all.ensures.nodes in
    let size : length plan ≡ length c.args.plan.now = length-map c.args.plan.now node_of in
    record {
      live = λ k within. mark_is plan c.in_ok-live.live.items k c.in_ok-live.ensures within;
      late = subst (λ n. AreLate plan n c.in_ok-ends.ends.items) (sym size)
          (subst (λ ns. AreLate (plan_of ns) (length ns) c.in_ok-ends.ends.items) same c.in_ok-ends.ensures);
    }
