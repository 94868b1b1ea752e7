use Rattle.std.proofs.Common.{subst}
use Rattle.pig_plan.specs.Valid.{IsPlan}
use Rattle.pig_physical.specs.Handed.{out_of, outs_of}
use Rattle.pig_physical.specs.Seen.{staged}
use Rattle.pig_work.proofs.Attempted.{values_right}
use Rattle.pig_work.proofs.attempts.reduce_in.Goals as goal

pub returns-in-Ok-clause-right : goal.returns-in-Ok-clause-right
returns-in-Ok-clause-right g c =
    values_right (staged c.args.stages.now) out_of c.reduce_forms_fit.ensures (subst IsPlan c.plan.ensures c.nodes-nodes.ensures.valid)
    (outs_of c.args.prior.now) c.args.task.now c.requires.task c.requires.prior c.in-Ok.out c.in-Ok.ensures.value
