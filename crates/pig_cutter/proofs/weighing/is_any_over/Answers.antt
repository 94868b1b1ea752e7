use Rattle.std.proofs.Common.{◌≡◌, ◌∙◌, ◌+◌, ap, subst}
use Rattle.std.specs.List.{list_any}
use Rattle.std.specs.Result.{IfOk}
use Rattle.pig_plan.specs.Plans.{plan_of}
use Rattle.pig_plan.specs.Results.{at_place}
use Rattle.pig_cutter.specs.Tables.{is_over, weights_of}
use Rattle.pig_cutter.proofs.weighing.is_any_over.Goals as goal

pub returns : goal.returns
returns c =
    let listing = c.args.listing.now in
    let plan = plan_of c.args.listing.now.nodes.now in
    let are : c.as_slice.result.now ≡ weights_of (c.args.most + 1) (at_place 0 c.args.listing.now.counts.now) (plan_of c.args.listing.now.nodes.now) =
    c.as_slice.ensures.value ∙ c.in_ok-weights.ensures ∙ ap (λ m. weights_of (m + 1) (at_place 0 listing.counts.now) plan) c.from-limit.ensures in
    subst (λ ws. IfOk c.any_over.result (λ b. b ≡ list_any (is_over c.args.most plan listing.stores.now (at_place 0 ws)) c.args.heads.now)) are c.any_over.ensures
