use Rattle.pig_plan.specs.Plans.{plan_of}
use Rattle.pig_push.specs.Merged.{MergesOn, plan_held}
use Rattle.pig_push.proofs.merging.merged.Given as goal

abbrev pub invariant-loop-high : goal.invariant-loop-high
invariant-loop-high l = MergesOn l.readers.items (plan_of l.fn.plan) (plan_held l.held)
