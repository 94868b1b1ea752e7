use Rattle.pig_plan.specs.Plans.{plan_of}
use Rattle.pig_prune.specs.Pruned.{IsCutTo}
use Rattle.pig_prune.proofs.pruning.build.Given as goal

abbrev pub invariant-loop-place : goal.invariant-loop-place
invariant-loop-place l = IsCutTo (plan_of l.plan) (plan_of l.made) l.place
