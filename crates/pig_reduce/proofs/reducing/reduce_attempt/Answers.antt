use Rattle.std.proofs.Common.{◌≡◌, ◌+◌, ◌∙◌, map, sym, subst, rules}
use Rattle.std.specs.Prelude.{None, Some}
use Rattle.std.specs.List.{AllByRecursion, flat_map}
use Rattle.pig_plan.specs.Nodes.{op_at}
use Rattle.pig_plan.specs.Plans.{op_of}
use Rattle.pig_physical.specs.Fitting.{run_dirs}
use Rattle.pig_physical.specs.Handed.{out_of, outs_of}
use Rattle.pig_physical.specs.Outs.{entries_at}
use Rattle.pig_physical.specs.Seen.{staged}
use Rattle.pig_reduce.specs.Made.{AreOfFirst, HasDirs}
use Rattle.pig_plan.specs.Valid.{IsPlan}
use Rattle.pig_reduce.proofs.Fitting.{reduced_fits}
use Rattle.pig_fitting.proofs.Standing.{reduces_at}
use Rattle.pig_reduce.proofs.Results.{some_weaker}
use Rattle.pig_reduce.proofs.Behind.{wave_dirs, wave_first}
use Rattle.pig_reduce.proofs.reducing.reduce_attempt.Goals as goal

pub reduce_op-requires-clause-dirs : goal.reduce_op-requires-clause-dirs
reduce_op-requires-clause-dirs g c =
    let op : op_at (staged c.args.stages.now).plan c.args.task.now.node ≡ Some (op_of c.in-Some.op.now) = search rules in
    subst (AllByRecursion (HasDirs (run_dirs (op_of c.in-Some.op.now)) c.args.task.now.part)) (sym c.outs_at.ensures)
    (wave_dirs (staged c.args.stages.now) (outs_of c.args.prior.now) c.args.task.now (op_of c.in-Some.op.now) op c.requires.task c.requires.prior)

pub reduce_op-requires-clause-first : goal.reduce_op-requires-clause-first
reduce_op-requires-clause-first g c one =
    let op : op_at (staged c.args.stages.now).plan c.args.task.now.node ≡ Some (op_of c.in-Some.op.now) = search rules in
    subst (λ outs. AreOfFirst (flat_map (entries_at c.args.task.now.part) outs)) (sym c.outs_at.ensures)
    (wave_first (staged c.args.stages.now) (outs_of c.args.prior.now) c.args.task.now (op_of c.in-Some.op.now) op c.requires.task c.requires.prior one)

pub returns-in-Some-clause-fits : goal.returns-in-Some-clause-fits
returns-in-Some-clause-fits g c =
    let s = staged c.args.stages.now in
    let op : op_at s.plan c.args.task.now.node ≡ Some (op_of c.in-Some.op.now) = search rules in
    let valid : IsPlan s.plan = subst IsPlan c.plan.ensures c.nodes.ensures.valid in
    some_weaker c.reduce_op.result
    (λ out h. reduced_fits c.reduce_forms_fit.ensures s valid (outs_of c.args.prior.now) c.args.task.now c.requires.task c.requires.prior
    (op_of c.in-Some.op.now) op
    (map out_of c.outs_at.result.now) c.outs_at.ensures (out_of out) h)
    c.reduce_op.ensures.value

pub returns-in-None-clause-fits : goal.returns-in-None-clause-fits
returns-in-None-clause-fits g c =
    let s = staged c.args.stages.now in
    let none : None ≡ op_at s.plan c.args.task.now.node = search rules in
    let own = reduces_at s c.args.task.now (c.args.task.now.wave + 1) c.requires.task.at c.requires.task.stands in
    absurd (let wrong = none ∙ own.at in cc)
