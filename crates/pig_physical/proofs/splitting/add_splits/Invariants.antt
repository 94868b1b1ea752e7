use Rattle.std.proofs.Common.{◌≡◌, ◌++◌, map}
use Rattle.std.specs.List.{range_with_len}
use Rattle.pig_storage.specs.Splits.{split_at}
use Rattle.pig_physical.proofs.splitting.add_splits.Given as goal

abbrev pub invariant-loop-at : goal.invariant-loop-at
invariant-loop-at l = l.found ≡ l.initial.found ++ map (split_at l.split l.piece l.size) (range_with_len 0 l.at)
