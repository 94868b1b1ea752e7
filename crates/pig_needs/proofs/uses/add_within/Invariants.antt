use Rattle.std.proofs.Common.{◌≡◌, ◌++◌, length}
use Rattle.std.specs.List.{filter_map}
use Rattle.pig_needs.specs.Needed.{within}
use Rattle.pig_needs.proofs.uses.add_within.Given as goal

abbrev pub invariant-loop-left : goal.invariant-loop-left
invariant-loop-left l = l.found ++ filter_map (within l.first l.size) l.left ≡ l.initial.found ++ filter_map (within l.first l.size) l.own

abbrev pub decreases-loop-left : goal.decreases-loop-left
decreases-loop-left l = length l.left
