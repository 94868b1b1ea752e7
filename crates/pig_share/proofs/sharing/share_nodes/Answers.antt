use Rattle.std.proofs.Common.{rules, ◌≡◌, length}
use Rattle.pig_plan.specs.Plans.{plan_of}
use Rattle.pig_plan.specs.Valid.{IsPlan}
use Rattle.pig_share.specs.Table.{IsSoFar}
use Rattle.pig_share.proofs.Finding.{all_shared, means_so, once_so}
use Rattle.pig_share.proofs.NoneAlike.{shares_all}
use Rattle.pig_share.proofs.sharing.share_nodes.Goals as goal

pub returns-clause-shares : goal.returns-clause-shares
returns-clause-shares c =
    let whole : c.loop-own.own ≡ length c.args.plan.now = search rules in
    let so_far : IsSoFar (plan_of c.args.plan.now) c.loop-own.table.items (plan_of c.loop-own.made) c.loop-own.own = search rules in
    all_shared c.args.plan.now c.loop-own.table.items (plan_of c.loop-own.made) c.loop-own.own whole so_far

pub returns-clause-means : goal.returns-clause-means
returns-clause-means c =
    let valid : IsPlan (plan_of c.args.plan.now) = search rules in
    let valid_q : IsPlan (plan_of c.loop-own.made) = search rules in
    means_so (plan_of c.args.plan.now) (plan_of c.loop-own.made) valid valid_q (returns-clause-shares c)

pub returns-clause-once : goal.returns-clause-once
returns-clause-once c =
    let valid : IsPlan (plan_of c.args.plan.now) = search rules in
    let valid_q : IsPlan (plan_of c.loop-own.made) = search rules in
    once_so (plan_of c.args.plan.now) (plan_of c.loop-own.made) valid valid_q (returns-clause-shares c)

pub returns-clause-all : goal.returns-clause-all
returns-clause-all c = shares_all (plan_of c.args.plan.now) (plan_of c.loop-own.made) (returns-clause-shares c) (returns-clause-once c)
