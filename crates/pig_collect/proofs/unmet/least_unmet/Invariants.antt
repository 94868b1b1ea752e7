use Rattle.std.proofs.Common.{◌≡◌, length}
use Rattle.pig_physical.specs.Handed.{outs_of}
use Rattle.pig_physical.specs.Running.{all_unmet}
use Rattle.pig_collect.specs.Tallies.{least_of, lesser}
use Rattle.pig_collect.proofs.unmet.least_unmet.Given as goal

abbrev pub invariant-loop-left : goal.invariant-loop-left
invariant-loop-left l = lesser l.found (least_of (all_unmet (outs_of l.left))) ≡ least_of (all_unmet (outs_of l.outs))

abbrev pub decreases-loop-left : goal.decreases-loop-left
decreases-loop-left l = length l.left
