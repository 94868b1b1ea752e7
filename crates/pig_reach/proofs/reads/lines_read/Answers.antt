use Rattle.std.proofs.Common.{rules, ◌≡◌, ◌<◌, length, get_or}
use Rattle.pig_plan.specs.Nodes.{live}
use Rattle.pig_plan.specs.Plans.{plan_of}
use Rattle.pig_plan.specs.Results.{at_place}
use Rattle.pig_plan.specs.Valid.{IsPlan}
use Rattle.pig_reach.specs.Flows.{flows_of, uses_in}
use Rattle.pig_reach.specs.Reach.{lines_read}
use Rattle.pig_reach.proofs.Flowing.{read_first, read_on}
use Rattle.pig_reach.proofs.reads.lines_read.Goals as goal

pub loop-place-init : goal.loop-place-init
loop-place-init c =
    let are : c.in_ok-live.live.items ≡ live (plan_of c.args.plan.now) = search rules in
    let valid : IsPlan (plan_of c.args.plan.now) = search rules in
    read_first (plan_of c.args.plan.now) c.args.inputs.now valid c.in_ok-live.live.items are

pub loop-place-preserved : goal.loop-place-preserved
loop-place-preserved c =
    let plan = plan_of c.args.plan.now in
    let valid : IsPlan (plan_of c.args.plan.now) = search rules in
    let same : c.in_ok-flows.flows.items ≡ flows_of c.args.inputs.now (plan_of c.args.plan.now) = search rules in
    let within : c.loop-place.place < length c.in_ok-live.live.items = search rules in
    let at : c.index.result.now ≡ get_or c.in_ok-live.live.items c.loop-place.place c.index.result.now = search rules in
    let is : c.in_ok-more.more ≡ uses_in (plan_of c.args.plan.now) c.index.result.now (at_place 0 c.in_ok-flows.flows.items) = search rules in
    read_on plan c.args.inputs.now valid c.in_ok-live.live.items c.loop-place.place c.index.result.now c.loop-place.count c.in_ok-more.more c.in_ok-flows.flows.items
    (lines_read plan c.args.inputs.now) same within at is c.loop-place.invariant
