use Rattle.std.proofs.Common.{◌≡◌, ◌++◌, length}
use Rattle.pig_storage.specs.Splits.{splits_from, splits_of}
use Rattle.pig_physical.proofs.splitting.splits.Given as goal

abbrev pub invariant-loop-left : goal.invariant-loop-left
invariant-loop-left l = l.found ++ splits_from l.split l.piece l.left ≡ splits_of l.split l.sizes

abbrev pub decreases-loop-left : goal.decreases-loop-left
decreases-loop-left l = length l.left
