use Rattle.std.proofs.Common.{None, subst}
use Rattle.std.specs.Option.{IfSome}
use Rattle.pig_physical.specs.Handed.{out_of, outs_of}
use Rattle.pig_physical.specs.Seen.{map_task_of, staged}
use Rattle.pig_physical.specs.Stages.{t_map}
use Rattle.pig_physical.specs.Values.{IsValue}
use Rattle.pig_map.proofs.calls.map_task_blocks.Goals as goal

pub returns-in-Some-clause-value : goal.returns-in-Some-clause-value
returns-in-Some-clause-value g c inputs reads =
    subst
    (λ o. IfSome o (λ out. IsValue (staged c.args.stages.now) inputs None (outs_of c.args.prior.now)
    (t_map (map_task_of (staged c.args.stages.now) c.args.task.now)) (out_of out)))
    c.in-Some.is (c.in_ok-out.ensures.value inputs reads)
