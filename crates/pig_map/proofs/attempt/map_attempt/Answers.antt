use Rattle.std.proofs.Common.{subst}
use Rattle.pig_plan.specs.Valid.{IsPlan}
use Rattle.pig_physical.specs.Handed.{outs_of}
use Rattle.pig_physical.specs.Seen.{map_task_of, staged}
use Rattle.pig_map.proofs.Fitted.{all_fit}
use Rattle.pig_map.proofs.attempt.map_attempt.Goals as goal

pub returns-in-Ok-clause-fits : goal.returns-in-Ok-clause-fits
returns-in-Ok-clause-fits g c =
    all_fit (staged c.args.stages.now) (subst IsPlan c.plan.ensures c.nodes.ensures.valid) c.loads_fit.ensures c.parts_fit.ensures
    c.args.task.now.wave c.requires.task.at (map_task_of (staged c.args.stages.now) c.args.task.now) c.requires.task.stands
    (outs_of c.args.prior.now) c.requires.prior c.map_forms_fit.ensures (g.H.Host.inputs c.args.host.now) c.in-Ok.out c.in-Ok.ensures.made
