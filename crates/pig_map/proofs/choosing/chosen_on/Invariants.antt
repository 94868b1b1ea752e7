use Rattle.std.proofs.Common.{length}
use Rattle.pig_plan.specs.Plans.{plan_of}
use Rattle.pig_stream.specs.Stepping.{marked_folding}
use Rattle.pig_map.proofs.Choices.{IsOnWay}
use Rattle.pig_map.proofs.choosing.chosen_on.Given as goal

abbrev pub invariant-loop-left : goal.invariant-loop-left
invariant-loop-left l = IsOnWay (marked_folding l.folded) (plan_of l.nodes) l.path l.chosen l.left

abbrev pub decreases-loop-left : goal.decreases-loop-left
decreases-loop-left l = length l.left
