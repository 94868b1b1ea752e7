use Rattle.std.proofs.Common.{rules, ◌≡◌, ◌∙◌, map, ap, sym}
use Rattle.pig_plan.specs.Plans.{plan_of}
use Rattle.pig_reach.specs.Reach.{stores_of}
use Rattle.pig_rewrites.specs.Alike.{RunsAlike, are_apart}
use Rattle.pig_rewrites.specs.Reached.{IsReached}
use Rattle.pig_run.proofs.Apart.{stores_apart}
use Rattle.pig_run.proofs.Laying.{apart_same, same_dirs}
use Rattle.pig_run.proofs.looking.rewritten.Goals as goal

pub rewrite-requires : goal.rewrite-requires
rewrite-requires c = record { apart = stores_apart (plan_of c.args.checked) c.requires.of_script.apart; ordered = c.requires.of_script.ordered }

pub returns-clause-prepared : goal.returns-clause-prepared
returns-clause-prepared c =
    let alike : RunsAlike (plan_of c.args.checked) (plan_of c.in_ok-plan.plan) = search rules in
    let reached : IsReached (plan_of c.args.checked) (plan_of c.in_ok-plan.plan) = search rules in
    let stores : c.in_ok-stores.stores ≡ stores_of (plan_of c.in_ok-plan.plan) = search rules in
    let dirs = same_dirs (plan_of c.args.checked) (plan_of c.in_ok-plan.plan) (stores_of (plan_of c.args.checked)) (stores_of (plan_of c.in_ok-plan.plan)) alike.stores in
    record {
      reached = reached;
      alike = alike;
      paths = c.requires.paths ∙ sym alike.paths;
      stores = stores;
      apart = ap are_apart stores ∙ apart_same (stores_of (plan_of c.args.checked)) (stores_of (plan_of c.in_ok-plan.plan)) dirs ∙ stores_apart (plan_of c.args.checked) c.requires.of_script.apart;
    }

pub returns-clause-dirs : goal.returns-clause-dirs
returns-clause-dirs c =
    let alike : RunsAlike (plan_of c.args.checked) (plan_of c.in_ok-plan.plan) = search rules in
    let stores : c.in_ok-stores.stores ≡ stores_of (plan_of c.in_ok-plan.plan) = search rules in
    ap (map (λ store. store.dir)) stores
    ∙ same_dirs (plan_of c.args.checked) (plan_of c.in_ok-plan.plan) (stores_of (plan_of c.args.checked)) (stores_of (plan_of c.in_ok-plan.plan)) alike.stores
