use Rattle.std.proofs.Common.{◌≡◌, ◌∙◌, ap, sym}
use Rattle.std.specs.Prelude.{Some, length, slice_get}
use Rattle.pig_plan.specs.Nodes.{op_at}
use Rattle.pig_physical.specs.Handed.{outs_of}
use Rattle.pig_physical.specs.Outs.{outs_at}
use Rattle.pig_physical.specs.Seen.{staged, task_of}
use Rattle.pig_physical.specs.Stages.{t_rank, tasks_in, ways_in}
use Rattle.pig_work.specs.Working.{AreStarts}
use Rattle.pig_work.proofs.Attempted.{alike, both_ok, has_start, maps_first, reduces_first}
use Rattle.pig_work.proofs.running.starts_before.Goals as goal

pub returns-in-Rank : goal.returns-in-Rank
returns-in-Rank c =
    let s = staged c.args.stages.now in
    let first : slice_get (tasks_in s c.args.wave) 0 ≡ Some (t_rank c.in-Rank.task) =
    c.task_at.ensures.task ∙ ap (λ t. Some (task_of (ways_in s.plan c.args.wave) t)) c.in-Rank.is in
    let outs = outs_of c.args.prior.now in
    both_ok _ _ (AreStarts s outs c.args.wave)
    (λ starts are each place t at.
    let same = alike s c.args.wave place 0 t c.in-Rank.task at first in (
      has_start s outs c.args.wave place c.requires t at starts
          (λ o here is. each o (ap (op_at s.plan) (sym same.0) ∙ here) is ∙ ap (λ w. length (outs_at outs w)) (sym same.1)),
      are t same.0 same.1,
    )) c.rank_starts.result c.rank_starts.ensures.are c.rank_starts.ensures.each

pub returns-in-Map : goal.returns-in-Map
returns-in-Map c =
    let s = staged c.args.stages.now in
    maps_first s (outs_of c.args.prior.now) c.args.wave _
    (c.task_at.ensures.task ∙ ap (λ t. Some (task_of (ways_in s.plan c.args.wave) t)) c.in-Map.is) c.new-in-Map.result

pub returns-in-Reduce : goal.returns-in-Reduce
returns-in-Reduce c =
    let s = staged c.args.stages.now in
    reduces_first s (outs_of c.args.prior.now) c.args.wave c.in-Reduce.field-0
    (c.task_at.ensures.task ∙ ap (λ t. Some (task_of (ways_in s.plan c.args.wave) t)) c.in-Reduce.is) c.new-in-Reduce.result
