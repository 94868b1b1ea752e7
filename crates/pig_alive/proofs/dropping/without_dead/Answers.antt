use Rattle.std.proofs.Common.{rules, ◌≡◌, subst, sym}
use Rattle.pig_plan.specs.Plans.{plan_of}
use Rattle.pig_plan.specs.Rewrites.{SameMeaning}
use Rattle.pig_plan.specs.Valid.{IsPlan}
use Rattle.pig_alive.specs.Alive.{EachLives, alive}
use Rattle.pig_alive.proofs.Means.{live_plans_mean}
use Rattle.pig_alive.proofs.Stays.{each_lives}
use Rattle.pig_alive.proofs.dropping.without_dead.Goals as goal

pub returns-clause-means : goal.returns-clause-means
returns-clause-means c =
    let is : plan_of c.in_ok-made.made ≡ alive (plan_of c.args.plan.now) = search rules in
    let valid : IsPlan (plan_of c.args.plan.now) = search rules in
    let valid_q : IsPlan (plan_of c.in_ok-made.made) = search rules in
    subst (SameMeaning (plan_of c.args.plan.now)) (sym is) (live_plans_mean (plan_of c.args.plan.now) valid (subst IsPlan is valid_q))

pub returns-clause-lives : goal.returns-clause-lives
returns-clause-lives c =
    let is : plan_of c.in_ok-made.made ≡ alive (plan_of c.args.plan.now) = search rules in
    let valid : IsPlan (plan_of c.args.plan.now) = search rules in
    let valid_q : IsPlan (plan_of c.in_ok-made.made) = search rules in
    subst EachLives (sym is) (each_lives (plan_of c.args.plan.now) valid (subst IsPlan is valid_q))
