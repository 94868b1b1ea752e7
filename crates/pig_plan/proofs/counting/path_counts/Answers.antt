use Rattle.std.proofs.Common.{rules, ◌≡◌, ◌∙◌}
use Rattle.std.specs.Result.{IfOk}
use Rattle.std.proofs.lemmas.Result.{IfOk-weaker}
use Rattle.pig_plan.proofs.PathCounts.{counts_are}
use Rattle.pig_plan.specs.Counts.{counts_of, path_counts}
use Rattle.pig_plan.specs.Plans.{plan_of}
use Rattle.pig_plan.specs.Valid.{IsPlan}
use Rattle.pig_plan.proofs.counting.path_counts.Goals as goal

pub returns : goal.returns
returns c =
    let plan = plan_of c.args.plan.now in
    let limit = c.args.limit in
    let valid : IsPlan (plan_of c.args.plan.now) = search rules in
    let told : IfOk c.count_paths.result (λ counts. counts.items ≡ counts_of c.args.limit (plan_of c.args.plan.now)) = search rules in
    IfOk-weaker c.count_paths.result _ (λ counts. counts.items ≡ path_counts limit plan) (λ counts is. is ∙ counts_are limit plan valid) told
