use Rattle.pig_plan.specs.Plans.{plan_of}
use Rattle.pig_run.proofs.Apart.{stores_apart}
use Rattle.pig_run.proofs.running.print_explain.Goals as goal

pub rewrite-requires : goal.rewrite-requires
rewrite-requires c = record { apart = stores_apart (plan_of c.args.plan.now) c.requires.of_script.apart; ordered = c.requires.of_script.ordered }
