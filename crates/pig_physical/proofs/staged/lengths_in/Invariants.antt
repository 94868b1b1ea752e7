use Rattle.std.proofs.Common.{◌≡◌, length}
use Rattle.pig_physical.specs.Seen.{lengths_in}
use Rattle.pig_physical.proofs.staged.lengths_in.Given as goal

abbrev pub invariant-loop-left : goal.invariant-loop-left
invariant-loop-left l = lengths_in l.left l.path ≡ lengths_in l.sizes l.path

abbrev pub decreases-loop-left : goal.decreases-loop-left
decreases-loop-left l = length l.left
