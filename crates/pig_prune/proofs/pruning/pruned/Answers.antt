use Rattle.std.proofs.Common.{rules, ◌≡◌, subst}
use Rattle.pig_plan.specs.Plans.{plan_of}
use Rattle.pig_plan.specs.Valid.{IsPlan}
use Rattle.pig_alive.specs.Alive.{EachLives, alive}
use Rattle.pig_cuts.specs.Plans.{IsCutBy}
use Rattle.pig_prune.specs.Pruned.{IsPruned, PrunedPlansMeanTheSame, cuts_of, marks_of}
use Rattle.pig_prune.proofs.Means.{pruned_lives}
use Rattle.pig_prune.proofs.pruning.pruned.Goals as goal

pub returns-clause-means : goal.returns-clause-means
returns-clause-means c =
    let are : plan_of c.in_ok-live.live ≡ alive (plan_of c.args.plan.now) = search rules in
    let cut : IsCutBy (marks_of (plan_of c.in_ok-live.live)) (cuts_of (plan_of c.in_ok-live.live)) (plan_of c.in_ok-live.live) (plan_of c.in_ok-made.made) = search rules in
    let is : IsPruned (plan_of c.args.plan.now) (plan_of c.in_ok-made.made) = subst (λ live. IsCutBy (marks_of live) (cuts_of live) live (plan_of c.in_ok-made.made)) are cut in
    let law : PrunedPlansMeanTheSame = search rules in
    let valid : IsPlan (plan_of c.args.plan.now) = search rules in
    let valid_live : IsPlan (plan_of c.in_ok-live.live) = search rules in
    let valid_made : IsPlan (plan_of c.in_ok-made.made) = search rules in
    law (plan_of c.args.plan.now) (plan_of c.in_ok-made.made) valid (subst IsPlan are valid_live) valid_made is

pub returns-clause-pruned : goal.returns-clause-pruned
returns-clause-pruned c =
    let are : plan_of c.in_ok-live.live ≡ alive (plan_of c.args.plan.now) = search rules in
    let cut : IsCutBy (marks_of (plan_of c.in_ok-live.live)) (cuts_of (plan_of c.in_ok-live.live)) (plan_of c.in_ok-live.live) (plan_of c.in_ok-made.made) = search rules in
    let is : IsPruned (plan_of c.args.plan.now) (plan_of c.in_ok-made.made) = subst (λ live. IsCutBy (marks_of live) (cuts_of live) live (plan_of c.in_ok-made.made)) are cut in
    is

pub returns-clause-lives : goal.returns-clause-lives
returns-clause-lives c =
    let are : plan_of c.in_ok-live.live ≡ alive (plan_of c.args.plan.now) = search rules in
    let cut : IsCutBy (marks_of (plan_of c.in_ok-live.live)) (cuts_of (plan_of c.in_ok-live.live)) (plan_of c.in_ok-live.live) (plan_of c.in_ok-made.made) = search rules in
    let is : IsPruned (plan_of c.args.plan.now) (plan_of c.in_ok-made.made) = subst (λ live. IsCutBy (marks_of live) (cuts_of live) live (plan_of c.in_ok-made.made)) are cut in
    let lives : EachLives (plan_of c.in_ok-live.live) = search rules in
    pruned_lives (plan_of c.args.plan.now) (plan_of c.in_ok-made.made) (subst EachLives are lives) is
