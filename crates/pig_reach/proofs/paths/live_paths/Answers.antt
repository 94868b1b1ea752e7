use Rattle.std.proofs.Common.{rules, ◌≡◌, ◌<◌, [], length, get_or, sym, ◌∙◌}
use Rattle.pig_plan.specs.Nodes.{live}
use Rattle.pig_plan.specs.Plans.{plan_of}
use Rattle.pig_reach.specs.Paths.{with_path_at}
use Rattle.pig_reach.proofs.Once.{comes_begun, comes_on}
use Rattle.pig_reach.proofs.paths.live_paths.Goals as goal

pub loop-place-init : goal.loop-place-init
loop-place-init c =
    let are : c.in_ok-numbers.numbers.items ≡ live (plan_of c.args.plan.now) = search rules in
    comes_begun (plan_of c.args.plan.now) c.in_ok-numbers.numbers.items c.new-paths.result c.new-paths.ensures are

pub loop-place-preserved : goal.loop-place-preserved
loop-place-preserved c =
    let within : c.loop-place.place < length c.in_ok-numbers.numbers.items = search rules in
    let at : c.index.result.now ≡ get_or c.in_ok-numbers.numbers.items c.loop-place.place c.index.result.now = search rules in
    let is : c.add_path_at.new.paths ≡ with_path_at (plan_of c.args.plan.now) c.index.result.now c.loop-place.paths = search rules in
    sym (comes_on (plan_of c.args.plan.now) c.in_ok-numbers.numbers.items c.loop-place.place c.index.result.now c.loop-place.paths c.add_path_at.new.paths within at is)
    ∙ c.loop-place.invariant
