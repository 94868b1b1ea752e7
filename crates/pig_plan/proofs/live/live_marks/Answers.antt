use Rattle.std.proofs.Common.{rules, ◌≡◌}
use Rattle.std.specs.Result.{IfOk}
use Rattle.std.proofs.lemmas.Result.{IfOk-weaker}
use Rattle.pig_plan.proofs.Marking.{marks_are}
use Rattle.pig_plan.specs.Marks.{AreMarks}
use Rattle.pig_plan.specs.Nodes.{live_marks}
use Rattle.pig_plan.specs.Plans.{plan_of}
use Rattle.pig_plan.proofs.live.live_marks.Goals as goal

pub returns : goal.returns
returns c =
    let plan = plan_of c.args.plan.now in
    let told : IfOk c.mark_live.result (λ marks. AreMarks (plan_of c.args.plan.now) 0 marks.items) = search rules in
    IfOk-weaker c.mark_live.result _ (λ marks. marks.items ≡ live_marks plan) (λ marks are. marks_are plan marks.items are) told
