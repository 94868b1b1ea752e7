use Rattle.std.proofs.Common.{ap, ◌∙◌, subst}
use Rattle.std.specs.Prelude.{Some, length}
use Rattle.pig_physical.specs.Handed.{out_of}
use Rattle.pig_physical.specs.Seen.{IsOwn, staged, task_of}
use Rattle.pig_physical.specs.Stages.{ways_in}
use Rattle.pig_map_tests.proofs.Probing.{fits_first}
use Rattle.pig_map_tests.proofs.waves.first_out.Goals as goal

pub returns-in-Map : goal.returns-in-Map
returns-in-Map g c =
    let s = staged c.args.stages.now in
    fits_first s c.in-Map.task (c.task_at.ensures.task ∙ ap (λ t. Some (task_of (ways_in s.plan 0) t)) c.in-Map.is)
    (subst (IsOwn 0 (length (ways_in s.plan 0))) c.in-Map.is c.task_at.ensures.own) (out_of c.mapped.result) c.mapped.ensures
