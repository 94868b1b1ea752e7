use Rattle.std.proofs.Common.{rules, ◌≡◌}
use Rattle.pig_plan.specs.Plans.{plan_of}
use Rattle.pig_plan.specs.Valid.{IsPlan}
use Rattle.pig_push.specs.Lone.{AreReaders}
use Rattle.pig_push.specs.Merged.{Merges, plan_held}
use Rattle.pig_push.proofs.LoneReaders.{sound_of}
use Rattle.pig_push.proofs.MergePass.{merges_done, merges_first, merges_more}
use Rattle.pig_push.proofs.merging.merged.Goals as goal

pub loop-high-init : goal.loop-high-init
loop-high-init c =
    let valid : IsPlan (plan_of c.args.plan) = search rules in
    let are : AreReaders (plan_of c.args.plan) c.in_ok-readers.readers.items = search rules in
    let is : plan_held c.in_ok-held.held ≡ plan_of c.args.plan = search rules in
    merges_first c.in_ok-readers.readers.items (plan_of c.args.plan) (plan_held c.in_ok-held.held) is valid (sound_of (plan_of c.args.plan) c.in_ok-readers.readers.items are)

pub loop-high-preserved : goal.loop-high-preserved
loop-high-preserved c =
    let next : Merges c.in_ok-readers.readers.items (plan_held c.loop-high.held) (plan_held c.merge_at.new.held) = search rules in
    merges_more c.in_ok-readers.readers.items (plan_of c.args.plan) (plan_held c.loop-high.held) (plan_held c.merge_at.new.held) c.loop-high.invariant next

pub returns : goal.returns
returns c =
    let nodes : plan_of c.in_ok-nodes.nodes ≡ plan_held c.loop-high.held = search rules in
    merges_done c.planned.result c.in_ok-readers.readers.items (plan_of c.args.plan) (plan_held c.loop-high.held) c.in_ok-nodes.nodes c.loop-high.invariant nodes c.planned.ensures
