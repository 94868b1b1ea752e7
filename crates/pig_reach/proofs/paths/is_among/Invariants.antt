use Rattle.std.proofs.Common.{◌≡◌, length}
use Rattle.pig_reach.specs.Paths.{is_among}
use Rattle.pig_reach.proofs.paths.is_among.Given as goal

abbrev pub invariant-loop-left : goal.invariant-loop-left
invariant-loop-left l = is_among l.path l.left ≡ is_among l.path l.paths

abbrev pub decreases-loop-left : goal.decreases-loop-left
decreases-loop-left l = length l.left
