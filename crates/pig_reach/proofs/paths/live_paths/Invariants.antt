use Rattle.std.proofs.Common.{◌≡◌, drop}
use Rattle.pig_plan.specs.Plans.{plan_of}
use Rattle.pig_reach.specs.Reach.{live_paths}
use Rattle.pig_reach.proofs.Once.{Comes}
use Rattle.pig_reach.proofs.paths.live_paths.Given as goal

abbrev pub invariant-loop-place : goal.invariant-loop-place
invariant-loop-place l = Comes (plan_of l.plan) (drop l.place l.numbers.items) l.paths ≡ live_paths (plan_of l.plan)
