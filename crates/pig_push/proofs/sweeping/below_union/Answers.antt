use Rattle.std.proofs.Common.{rules}
use Rattle.pig_plan.specs.Plans.{plan_of}
use Rattle.pig_moves.specs.Pushed.{GoesOn}
use Rattle.pig_push.specs.Lone.{AreReaders}
use Rattle.pig_push.proofs.LoneReaders.{sound_of}
use Rattle.pig_push.proofs.sweeping.below_union.Goals as goal

pub returns : goal.returns
returns c =
    let goes : GoesOn (plan_of c.args.plan) (plan_of c.in_ok-plan.plan) = search rules in
    let are : AreReaders (plan_of c.in_ok-plan.plan) c.in_ok-counts.counts.items = search rules in
    record { goes = goes; sound = sound_of (plan_of c.in_ok-plan.plan) c.in_ok-counts.counts.items are }
