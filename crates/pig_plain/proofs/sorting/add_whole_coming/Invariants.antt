use Rattle.std.proofs.Common.{◌≡◌, ◌++◌, [], length, map}
use Rattle.pig_value.specs.Valid.{AreRows}
use Rattle.pig_plain.specs.Coming.{coming}
use Rattle.pig_operators.specs.Keying.{row_entry}
use Rattle.pig_plain.proofs.sorting.add_whole_coming.Given as goal

abbrev pub invariant-batches : goal.invariant-batches
invariant-batches l = (l.builder.dirs ≡ []) × AreRows (coming l.walk)
    × (l.builder.entries ++ map row_entry (coming l.walk) ≡ l.fn.builder.entries ++ map row_entry (coming l.fn.walk))

abbrev pub decreases-batches : goal.decreases-batches
decreases-batches l = length (coming l.walk)
