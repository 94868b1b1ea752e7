use Rattle.std.proofs.Common.{rules, ◌≡◌, map, length, ap, ◌∙◌}
use Rattle.std.specs.List.{range_with_len}
use Rattle.std.specs.Result.{IfOk}
use Rattle.std.proofs.lemmas.List.{length-map}
use Rattle.std.proofs.lemmas.Result.{IfOk-weaker}
use Rattle.pig_plan.specs.Plans.{node_of, plan_of}
use Rattle.pig_needs.specs.Found.{AreNeedsFrom}
use Rattle.pig_needs.specs.Needed.{need_of}
use Rattle.pig_needs.proofs.Adding.{needs_are}
use Rattle.pig_needs.proofs.walking.needs.Goals as goal

pub returns : goal.returns
returns c =
    let told : IfOk c.walked.result (λ found. AreNeedsFrom (plan_of c.args.plan.now) 0 found.items) = search rules in
    IfOk-weaker c.walked.result _ (λ found. found.items ≡ map (need_of (plan_of c.args.plan.now)) (range_with_len 0 (length c.args.plan.now)))
    (λ found are. needs_are (plan_of c.args.plan.now) found.items are
    ∙ ap (λ n. map (need_of (plan_of c.args.plan.now)) (range_with_len 0 n)) (length-map c.args.plan.now node_of)) told
