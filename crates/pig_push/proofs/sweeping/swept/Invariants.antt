use Rattle.pig_plan.specs.Plans.{plan_of}
use Rattle.pig_moves.specs.Pushed.{GoesOn}
use Rattle.pig_push.specs.Lone.{AreSound}
use Rattle.pig_push.proofs.sweeping.swept.Given as goal

abbrev pub invariant-steps : goal.invariant-steps
invariant-steps l = GoesOn (plan_of l.fn.plan) (plan_of l.sweep.plan) × AreSound (plan_of l.sweep.plan) l.sweep.counts.items
