use Rattle.std.proofs.Common.{◌≡◌, length}
use Rattle.pig_collect.specs.Tallies.{least_of, lesser}
use Rattle.pig_collect.proofs.unmet.least_of.Given as goal

abbrev pub invariant-loop-left : goal.invariant-loop-left
invariant-loop-left l = lesser l.found (least_of l.left) ≡ least_of l.numbers

abbrev pub decreases-loop-left : goal.decreases-loop-left
decreases-loop-left l = length l.left
