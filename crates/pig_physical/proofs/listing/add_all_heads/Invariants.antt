use Rattle.std.proofs.Common.{◌≡◌, ◌++◌, length}
use Rattle.std.specs.List.{flat_map}
use Rattle.pig_plan.specs.Plans.{plan_of}
use Rattle.pig_physical.specs.Heading.{heads_on}
use Rattle.pig_physical.proofs.listing.add_all_heads.Given as goal

abbrev pub invariant-loop-left : goal.invariant-loop-left
invariant-loop-left l =
    l.found ++ flat_map (heads_on (plan_of l.nodes)) l.left ≡ l.initial.found ++ flat_map (heads_on (plan_of l.nodes)) l.live

abbrev pub decreases-loop-left : goal.decreases-loop-left
decreases-loop-left l = length l.left
