use Rattle.std.proofs.Common.{◌≡◌, ◌++◌, drop, length, map, subst}
use Rattle.std.specs.Result.{OnOk}
use Rattle.pig_plan.specs.Plans.{plan_of}
use Rattle.pig_physical.specs.Seen.{entering_of}
use Rattle.pig_cutter.specs.Feeds.{tasks_along, ways_on}
use Rattle.pig_cutter.specs.Tables.{parts_for}
use Rattle.pig_cutter.proofs.Loops.{added_ways}
use Rattle.pig_cutter.proofs.listing.add_feed.Goals as goal

pub returns-clause-tasks : goal.returns-clause-tasks
returns-clause-tasks c =
    let parts = parts_for c.args.listing.now.split c.args.listing.now.sources.now in
    let made = ways_on (plan_of c.args.listing.now.nodes.now) c.args.feed.now in
    let read = c.as_slice.result.now in
    let begin = c.len-begin.result in
    let ways : map entering_of (drop begin read) ≡ made =
    added_ways c.args.ways.now c.add_ways.new.ways read begin made c.as_slice.ensures c.len-begin.ensures c.in_ok-add_ways.ensures in
    subst (λ ws. OnOk c.add_tasks.result (c.add_tasks.new.tasks ≡ c.args.tasks.now ++ tasks_along parts c.args.feed.now.node c.args.wave (length c.args.ways.now) ws)) ways
    (subst (λ b. OnOk c.add_tasks.result (c.add_tasks.new.tasks ≡ c.args.tasks.now ++ tasks_along parts c.args.feed.now.node c.args.wave b (map entering_of (drop begin read))))
    c.len-begin.ensures c.add_tasks.ensures)
