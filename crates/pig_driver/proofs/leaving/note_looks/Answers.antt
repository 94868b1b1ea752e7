use Rattle.std.proofs.Common.{◌∙◌, ◌+◌, drop, ap, sym}
use Rattle.pig_physical.specs.Seen.{staged, task_of}
use Rattle.pig_physical.specs.Stages.{tasks_in, ways_in}
use Rattle.pig_value.proofs.list_laws.Indexing.{dropped}
use Rattle.pig_driver.specs.Left.{looked}
use Rattle.pig_driver.proofs.leaving.note_looks.Goals as goal

pub loop-at-preserved : goal.loop-at-preserved
loop-at-preserved c =
    let s = staged c.args.stages.now in
    let tasks = tasks_in s c.args.wave in
    let ways = ways_in s.plan c.args.wave in
    let at = c.loop-at.at in
    ap (looked (drop (at + 1) tasks) c.args.wave) (c.note_look.ensures ways)
    ∙ sym (ap (λ ts. looked ts c.args.wave c.loop-at.lasts.items) (dropped tasks at (task_of ways c.task_at.result.now) c.task_at.ensures.task))
    ∙ c.loop-at.invariant
