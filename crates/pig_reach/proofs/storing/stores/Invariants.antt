use Rattle.std.proofs.Common.{◌≡◌, ◌++◌, length}
use Rattle.std.specs.List.{filter_map}
use Rattle.pig_plan.specs.Plans.{plan_of}
use Rattle.pig_reach.specs.Reach.{store_of, stores_of}
use Rattle.pig_reach.proofs.storing.stores.Given as goal

abbrev pub invariant-loop-left : goal.invariant-loop-left
invariant-loop-left l = l.stores ++ filter_map store_of (plan_of l.left) ≡ stores_of (plan_of l.plan)

abbrev pub decreases-loop-left : goal.decreases-loop-left
decreases-loop-left l = length l.left
