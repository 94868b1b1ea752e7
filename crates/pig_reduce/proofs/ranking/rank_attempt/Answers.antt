use Rattle.std.proofs.Common.{◌≡◌, rules, subst}
use Rattle.std.specs.Prelude.{Some}
use Rattle.pig_plan.specs.Nodes.{op_at}
use Rattle.pig_plan.specs.Plans.{op_of}
use Rattle.pig_plan.specs.Valid.{IsPlan}
use Rattle.pig_physical.specs.Handed.{out_of, outs_of}
use Rattle.pig_physical.specs.Seen.{staged}
use Rattle.pig_reduce.proofs.PartRanks.{rank_fits, rank_value, task_ranks}
use Rattle.std.specs.Prelude.{map}
use Rattle.pig_reduce.proofs.ranking.rank_attempt.Goals as goal

pub ranked_by-requires : goal.ranked_by-requires
ranked_by-requires g c =
    let at : op_at (staged c.args.stages.now).plan c.args.task.now.node ≡ Some (op_of c.in-Some.op.now) = search rules in
    task_ranks (staged c.args.stages.now) (outs_of c.args.prior.now) c.args.task.now c.requires.task (op_of c.in-Some.op.now) at

pub returns-in_ok-ranked-in-Some-clause-value : goal.returns-in_ok-ranked-in-Some-clause-value
returns-in_ok-ranked-in-Some-clause-value g c =
    let at : op_at (staged c.args.stages.now).plan c.args.task.now.node ≡ Some (op_of c.in-Some.op.now) = search rules in
    λ inputs.
    rank_value (staged c.args.stages.now) (outs_of c.args.prior.now) c.args.task.now c.requires.task (op_of c.in-Some.op.now) at
    (map out_of c.outs_at-outs.result.now) c.outs_at-outs.ensures c.args.start.now c.requires.start c.in_ok-ranked-in-Some.ranked c.in_ok-ranked-in-Some.ensures.form
    (out_of c.out_with.result) c.out_with.ensures

pub returns-in_ok-ranked-in-Some-clause-fits : goal.returns-in_ok-ranked-in-Some-clause-fits
returns-in_ok-ranked-in-Some-clause-fits g c =
    let at : op_at (staged c.args.stages.now).plan c.args.task.now.node ≡ Some (op_of c.in-Some.op.now) = search rules in
    let valid : IsPlan (staged c.args.stages.now).plan = subst IsPlan c.plan.ensures c.nodes.ensures.valid in
    rank_fits (staged c.args.stages.now) (outs_of c.args.prior.now) c.args.task.now c.requires.task (op_of c.in-Some.op.now) at
    c.rank_forms_fit.ensures valid c.requires.prior (map out_of c.outs_at-outs.result.now) c.outs_at-outs.ensures c.in_ok-ranked-in-Some.ranked
    c.in_ok-ranked-in-Some.ensures.longs (out_of c.out_with.result) c.out_with.ensures
