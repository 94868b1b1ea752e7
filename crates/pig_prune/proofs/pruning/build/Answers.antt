use Rattle.std.proofs.Common.{rules, ◌≡◌, length, subst, sym, ◌∙◌}
use Rattle.std.proofs.lemmas.List.{length-map}
use Rattle.pig_plan.specs.Plans.{node_of, plan_of}
use Rattle.pig_prune.specs.Pruned.{IsCutTo}
use Rattle.pig_prune.proofs.Turns.{all_fitted}
use Rattle.pig_prune.proofs.pruning.build.Goals as goal

pub returns : goal.returns
returns c =
    let whole : c.loop-place.place ≡ length c.args.plan.now = search rules in
    all_fitted (plan_of c.args.plan.now) (plan_of c.loop-place.made)
    (subst (IsCutTo (plan_of c.args.plan.now) (plan_of c.loop-place.made)) (whole ∙ sym (length-map c.args.plan.now node_of)) (search rules))
