use Rattle.std.proofs.Common.{rules, ◌≡◌, length, map, subst}
use Rattle.std.specs.Prelude.{Some, slice_get, false}
use Rattle.std.specs.List.{AllByRecursion}
use Rattle.std.specs.Option.{is_some}
use Rattle.pig_plan.specs.Entries.{sort_keys}
use Rattle.pig_plan.specs.Nodes.{op_at}
use Rattle.pig_plan.specs.Plans.{op_of}
use Rattle.pig_physical.specs.Handed.{out_of}
use Rattle.pig_physical.specs.Outs.{runs_in}
use Rattle.pig_physical.specs.Seen.{staged}
use Rattle.pig_physical.specs.Stages.{tasks_in}
use Rattle.pig_tasks_tests.proofs.Fitting.{has_wave, unsorted}
use Rattle.pig_tasks_tests.proofs.standing.wave_stands.Goals as goal

pub returns-then-not-sorts : goal.returns-then-not-sorts
returns-then-not-sorts c =
    let s = staged c.args.stages.now in
    let wave : slice_get c.args.prior.now c.args.task.now.wave ≡ Some c.in-Some.outs.now = search rules in
    let size : length c.in-Some.outs.now ≡ length (tasks_in (staged c.args.stages.now) c.args.task.now.wave) = search rules in
    let at : op_at (staged c.args.stages.now).plan c.args.task.now.node ≡ Some (op_of c.in-Some-operator.op.now) = search rules in
    let none : is_some (sort_keys (op_of c.in-Some-operator.op.now)) ≡ false = search rules in
    λ _. has_wave s c.args.prior.now c.args.task.now c.in-Some.outs.now wave c.requires.fit size
    (unsorted s c.args.task.now.node (op_of c.in-Some-operator.op.now) at none c.in-Some.outs.now)

pub returns : goal.returns
returns c = λ held.
    let s = staged c.args.stages.now in
    let wave : slice_get c.args.prior.now c.args.task.now.wave ≡ Some c.in-Some.outs.now = search rules in
    let size : length c.in-Some.outs.now ≡ length (tasks_in (staged c.args.stages.now) c.args.task.now.wave) = search rules in
    let same : c.as_slice.result.now ≡ c.in-Some.outs.now = search rules in
    let sliced = subst (λ n. AllByRecursion (λ x. length (runs_in x.form) ≡ n) (map out_of c.in-Some.outs.now)) c.reducers.ensures
    (subst (λ outs. AllByRecursion (λ x. length (runs_in x.form) ≡ c.reducers.result) (map out_of outs)) same (c.have_runs.ensures held)) in
    has_wave s c.args.prior.now c.args.task.now c.in-Some.outs.now wave c.requires.fit size (λ o keys at by. sliced)
