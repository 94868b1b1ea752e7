use Rattle.std.proofs.Common.{rules, ◌≡◌, ◌<◌, ◌%◌, ◌^◌, ◌∙◌, ap, arith, length, map, min}
use Rattle.std.proofs.lemmas.List.{length-map}
use Rattle.pig_plan.specs.Plans.{plan_of}
use Rattle.pig_physical.specs.Handed.{out_of}
use Rattle.pig_physical.specs.Seen.{staged, task_of}
use Rattle.pig_physical.specs.Stages.{tasks_in, ways_in}
use Rattle.pig_driver.specs.Handing.{handed_by}
use Rattle.pig_driver.proofs.Counting.{handed_all, handed_on, out_at}
use Rattle.pig_driver.proofs.handing.handed_in.Goals as goal

pub loop-at-preserved : goal.loop-at-preserved
loop-at-preserved c =
    let s = staged c.args.stages.now in
    let ways = ways_in s.plan c.args.wave in
    let outs = c.args.outs.now in
    let less : c.loop-at.at < length c.args.outs.now = search rules in
    let task = task_of ways c.task_at.result.now in
    let out = out_of c.index-outs-at.result in
    let same : plan_of c.as_slice-nodes.result.now ≡ (staged c.args.stages.now).plan = search rules in
    handed_on s.plan (tasks_in s c.args.wave) (map out_of outs) c.loop-at.at c.loop-at.count c.handed_by-count.result task out
    c.task_at.ensures.task (out_at outs c.loop-at.at c.index-outs-at.result less c.index-outs-at.is)
    (c.handed_by-count.ensures ways ∙ ap (λ plan. handed_by plan task out % 2 ^ 64) same) c.loop-at.invariant

pub returns : goal.returns
returns c =
    let s = staged c.args.stages.now in
    let outs = c.args.outs.now in
    let size = length-map outs out_of in
    let end : c.min-at-end.result ≡ min (length (map out_of c.args.outs.now)) (length (tasks_in (staged c.args.stages.now) c.args.wave)) = omega (arith, size, c.min-at-end.ensures, c.tasks.ensures) in
    let fits : c.loop-at.count < 2 ^ 64 = omega arith in
    handed_all s.plan (tasks_in s c.args.wave) (map out_of outs) c.loop-at.at c.loop-at.count c.min-at-end.result end c.loop-at.auto.at-end c.loop-at-test.false fits c.loop-at.invariant
