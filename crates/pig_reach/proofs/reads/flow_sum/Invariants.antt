use Rattle.std.proofs.Common.{◌≡◌, ◌+◌, ◌%◌, ◌^◌, length}
use Rattle.std.specs.List.{sum_by}
use Rattle.pig_plan.specs.Results.{at_place}
use Rattle.pig_reach.proofs.reads.flow_sum.Given as goal

abbrev pub invariant-loop-left : goal.invariant-loop-left
invariant-loop-left l = (l.sum + sum_by (at_place 0 l.flows) l.left) % 2 ^ 64 ≡ sum_by (at_place 0 l.flows) l.numbers % 2 ^ 64

abbrev pub decreases-loop-left : goal.decreases-loop-left
decreases-loop-left l = length l.left
