use Rattle.std.proofs.Common.{◌≡◌, ◌++◌, false, length, map}
use Rattle.pig_plan.specs.Plans.{plan_of}
use Rattle.pig_plan.specs.Results.{at_place}
use Rattle.pig_physical.specs.Handed.{outs_of}
use Rattle.pig_collect.specs.Keeping.{chosen_in, chosen_of}
use Rattle.pig_collect.proofs.kept.all_kept.Given as goal

abbrev pub invariant-loop-ahead : goal.invariant-loop-ahead
invariant-loop-ahead l =
    map chosen_of l.kept ++ chosen_in (at_place false l.sorted) (plan_of l.nodes) l.ahead (outs_of l.left)
    ≡ chosen_in (at_place false l.sorted) (plan_of l.nodes) l.numbers (outs_of l.outs)

abbrev pub decreases-loop-ahead : goal.decreases-loop-ahead
decreases-loop-ahead l = length l.ahead
