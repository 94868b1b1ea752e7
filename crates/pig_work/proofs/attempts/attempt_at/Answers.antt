use Rattle.std.proofs.Common.{ap, ◌∙◌, subst}
use Rattle.std.specs.Prelude.{Some, length}
use Rattle.pig_physical.specs.Handed.{out_of, outs_of}
use Rattle.pig_physical.specs.Seen.{IsOwn, staged, task_of}
use Rattle.pig_physical.specs.Stages.{ways_in}
use Rattle.pig_work.proofs.Attempted.{map_read, map_right, map_sides, map_source, map_stands, rank_all, rank_right, rank_stands, reduce_right, reduce_stands, reduce_wave}
use Rattle.pig_work.proofs.attempts.attempt_at.Goals as goal

pub map_attempt-requires-clause-task : goal.map_attempt-requires-clause-task
map_attempt-requires-clause-task g c =
    map_stands (staged c.args.stages.now) (outs_of c.args.prior.now) c.args.wave c.args.place c.requires.ready c.in-Map.task
    (c.task_in.ensures.task ∙ ap (λ t. Some (task_of (ways_in (staged c.args.stages.now).plan c.args.wave) t)) c.in-Map.is)
    (subst (IsOwn c.args.wave (length (ways_in (staged c.args.stages.now).plan c.args.wave))) c.in-Map.is c.task_in.ensures.own)

pub map_attempt-requires-clause-prior : goal.map_attempt-requires-clause-prior
map_attempt-requires-clause-prior g c =
    map_read (staged c.args.stages.now) (outs_of c.args.prior.now) c.args.wave c.args.place c.requires.ready c.in-Map.task
    (c.task_in.ensures.task ∙ ap (λ t. Some (task_of (ways_in (staged c.args.stages.now).plan c.args.wave) t)) c.in-Map.is)
    (subst (IsOwn c.args.wave (length (ways_in (staged c.args.stages.now).plan c.args.wave))) c.in-Map.is c.task_in.ensures.own)

pub map_attempt-requires-clause-host : goal.map_attempt-requires-clause-host
map_attempt-requires-clause-host g c =
    map_source (staged c.args.stages.now) (outs_of c.args.prior.now) c.args.wave c.args.place c.requires.ready c.in-Map.task
    (c.task_in.ensures.task ∙ ap (λ t. Some (task_of (ways_in (staged c.args.stages.now).plan c.args.wave) t)) c.in-Map.is)
    (subst (IsOwn c.args.wave (length (ways_in (staged c.args.stages.now).plan c.args.wave))) c.in-Map.is c.task_in.ensures.own)
    (g.H.Host.inputs c.args.host.now) c.requires.host

pub map_attempt-requires-clause-sides : goal.map_attempt-requires-clause-sides
map_attempt-requires-clause-sides g c =
    map_sides (staged c.args.stages.now) (outs_of c.args.prior.now) c.args.wave c.args.place c.requires.ready c.in-Map.task
    (c.task_in.ensures.task ∙ ap (λ t. Some (task_of (ways_in (staged c.args.stages.now).plan c.args.wave) t)) c.in-Map.is)
    (subst (IsOwn c.args.wave (length (ways_in (staged c.args.stages.now).plan c.args.wave))) c.in-Map.is c.task_in.ensures.own)
    c.args.shared.now.sides (c.requires.shared).sides_are

pub reduce_in-requires-clause-task : goal.reduce_in-requires-clause-task
reduce_in-requires-clause-task g c =
    reduce_stands (staged c.args.stages.now) (outs_of c.args.prior.now) c.args.wave c.args.place c.requires.ready c.in-Reduce.task
    (c.task_in.ensures.task ∙ ap (λ t. Some (task_of (ways_in (staged c.args.stages.now).plan c.args.wave) t)) c.in-Reduce.is)

pub reduce_in-requires-clause-prior : goal.reduce_in-requires-clause-prior
reduce_in-requires-clause-prior g c =
    reduce_wave (staged c.args.stages.now) (outs_of c.args.prior.now) c.args.wave c.args.place c.requires.ready c.in-Reduce.task
    (c.task_in.ensures.task ∙ ap (λ t. Some (task_of (ways_in (staged c.args.stages.now).plan c.args.wave) t)) c.in-Reduce.is)

pub returns-in-Map-clause-right : goal.returns-in-Map-clause-right
returns-in-Map-clause-right g c =
    map_right (staged c.args.stages.now) (outs_of c.args.prior.now) c.args.wave c.args.place c.requires.ready c.in-Map.task
    (c.task_in.ensures.task ∙ ap (λ t. Some (task_of (ways_in (staged c.args.stages.now).plan c.args.wave) t)) c.in-Map.is)
    (subst (IsOwn c.args.wave (length (ways_in (staged c.args.stages.now).plan c.args.wave))) c.in-Map.is c.task_in.ensures.own)
    out_of (g.H.Host.inputs c.args.host.now) c.map_attempt.result c.map_attempt.ensures.value c.map_attempt.ensures.fits

pub returns-in-Reduce-clause-right : goal.returns-in-Reduce-clause-right
returns-in-Reduce-clause-right g c =
    reduce_right (staged c.args.stages.now) (outs_of c.args.prior.now) c.args.wave c.args.place c.requires.ready c.in-Reduce.task
    (c.task_in.ensures.task ∙ ap (λ t. Some (task_of (ways_in (staged c.args.stages.now).plan c.args.wave) t)) c.in-Reduce.is)
    out_of (g.H.Host.inputs c.args.host.now) c.reduce_in.result c.reduce_in.ensures.right

pub rank_in-requires-clause-task : goal.rank_in-requires-clause-task
rank_in-requires-clause-task g c =
    rank_stands (staged c.args.stages.now) (outs_of c.args.prior.now) c.args.wave c.args.place c.requires.ready c.in-Rank.task
    (c.task_in.ensures.task ∙ ap (λ t. Some (task_of (ways_in (staged c.args.stages.now).plan c.args.wave) t)) c.in-Rank.is)

pub rank_in-requires-clause-prior : goal.rank_in-requires-clause-prior
rank_in-requires-clause-prior g c =
    rank_all (staged c.args.stages.now) (outs_of c.args.prior.now) c.args.wave c.args.place c.requires.ready c.in-Rank.task
    (c.task_in.ensures.task ∙ ap (λ t. Some (task_of (ways_in (staged c.args.stages.now).plan c.args.wave) t)) c.in-Rank.is)

pub rank_in-requires-clause-starts : goal.rank_in-requires-clause-starts
rank_in-requires-clause-starts g c =
    ((c.requires.shared).starts_are c.args.place c.in-Rank.task
    (c.task_in.ensures.task ∙ ap (λ t. Some (task_of (ways_in (staged c.args.stages.now).plan c.args.wave) t)) c.in-Rank.is)).1

pub rank_in-requires-clause-part : goal.rank_in-requires-clause-part
rank_in-requires-clause-part g c =
    ((c.requires.shared).starts_are c.args.place c.in-Rank.task
    (c.task_in.ensures.task ∙ ap (λ t. Some (task_of (ways_in (staged c.args.stages.now).plan c.args.wave) t)) c.in-Rank.is)).0

pub returns-in-Rank-clause-right : goal.returns-in-Rank-clause-right
returns-in-Rank-clause-right g c =
    rank_right (staged c.args.stages.now) (outs_of c.args.prior.now) c.args.wave c.args.place c.requires.ready c.in-Rank.task
    (c.task_in.ensures.task ∙ ap (λ t. Some (task_of (ways_in (staged c.args.stages.now).plan c.args.wave) t)) c.in-Rank.is)
    out_of (g.H.Host.inputs c.args.host.now) c.rank_in.result c.rank_in.ensures.right
