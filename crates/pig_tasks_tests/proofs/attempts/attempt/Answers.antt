use Rattle.std.proofs.Common.{ap, ◌∙◌, subst}
use Rattle.std.specs.Prelude.{Some, length}
use Rattle.pig_physical.specs.Handed.{out_of}
use Rattle.pig_physical.specs.Seen.{IsOwn, staged, task_of}
use Rattle.pig_physical.specs.Stages.{ways_in}
use Rattle.pig_tasks_tests.proofs.Fitting.{map_fits, rank_fits_at, reduce_fits_at}
use Rattle.pig_tasks_tests.proofs.attempts.attempt.Goals as goal

pub returns-in-Map : goal.returns-in-Map
returns-in-Map g c =
    map_fits (staged c.args.stages.now) c.args.wave c.args.at c.in-Map.task
    (c.task_at.ensures.task ∙ ap (λ t. Some (task_of (ways_in (staged c.args.stages.now).plan c.args.wave) t)) c.in-Map.is)
    (subst (IsOwn c.args.wave (length (ways_in (staged c.args.stages.now).plan c.args.wave))) c.in-Map.is c.task_at.ensures.own)
    (out_of c.mapped.result) c.mapped.ensures

pub returns-in-Reduce : goal.returns-in-Reduce
returns-in-Reduce g c =
    reduce_fits_at (staged c.args.stages.now) c.args.wave c.args.at c.in-Reduce.task
    (c.task_at.ensures.task ∙ ap (λ t. Some (task_of (ways_in (staged c.args.stages.now).plan c.args.wave) t)) c.in-Reduce.is)
    (out_of c.reduced.result) c.reduced.ensures

pub returns-in-Rank : goal.returns-in-Rank
returns-in-Rank g c =
    rank_fits_at (staged c.args.stages.now) c.args.wave c.args.at c.in-Rank.task
    (c.task_at.ensures.task ∙ ap (λ t. Some (task_of (ways_in (staged c.args.stages.now).plan c.args.wave) t)) c.in-Rank.is)
    (out_of c.ranked.result) c.ranked.ensures
