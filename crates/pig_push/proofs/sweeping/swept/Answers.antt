use Rattle.std.proofs.Common.{rules}
use Rattle.pig_plan.specs.Plans.{plan_of}
use Rattle.pig_push.specs.Lone.{StepsOn}
use Rattle.pig_push.proofs.sweeping.swept.Goals as goal

pub steps-init : goal.steps-init
steps-init c = (λ before moves. moves, c.requires.sound)

pub steps-preserved : goal.steps-preserved
steps-preserved c =
    let next : StepsOn (plan_of c.steps.sweep.plan) (plan_of c.in_ok-sweep.sweep.plan) c.in_ok-sweep.sweep.counts.items = search rules in
    (λ before moves. next.goes before (c.steps.invariant.0 before moves), next.sound)
