use Rattle.std.proofs.Common.{◌≡◌, length}
use Rattle.pig_plan.specs.Plans.{plan_of}
use Rattle.pig_physical.specs.Heading.{store_head}
use Rattle.pig_physical.proofs.listing.add_store_head.Given as goal

abbrev pub invariant-loop-left : goal.invariant-loop-left
invariant-loop-left l = (l.found ≡ l.initial.found) × (store_head (plan_of l.nodes) l.left ≡ store_head (plan_of l.nodes) l.numbers)

abbrev pub decreases-loop-left : goal.decreases-loop-left
decreases-loop-left l = length l.left
