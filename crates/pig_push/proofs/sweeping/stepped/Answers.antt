use Rattle.std.proofs.Common.{rules}
use Rattle.pig_plan.specs.Plans.{plan_of}
use Rattle.pig_push.proofs.LoneMoves.{steps_none}
use Rattle.pig_push.proofs.sweeping.stepped.Goals as goal

pub returns-then-not-parts : goal.returns-then-not-parts
returns-then-not-parts c =
    steps_none (plan_of c.args.sweep.plan) (plan_of c.next_before.result.plan) c.args.sweep.counts.items c.next_before.result.counts.items (search rules) (search rules) c.requires.sound
