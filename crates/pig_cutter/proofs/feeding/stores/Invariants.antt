use Rattle.std.proofs.Common.{◌≡◌, ◌++◌, length}
use Rattle.std.specs.List.{filter}
use Rattle.pig_plan.specs.Plans.{plan_of}
use Rattle.pig_cutter.specs.Feeds.{is_store_in}
use Rattle.pig_cutter.proofs.feeding.stores.Given as goal

abbrev pub invariant-loop-left : goal.invariant-loop-left
invariant-loop-left l = l.found ++ filter (is_store_in (plan_of l.nodes)) l.left ≡ filter (is_store_in (plan_of l.nodes)) l.numbers

abbrev pub decreases-loop-left : goal.decreases-loop-left
decreases-loop-left l = length l.left
