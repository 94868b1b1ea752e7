use Rattle.std.proofs.Common.{◌≡◌, ◌++◌, length, map}
use Rattle.pig_value.specs.Valid.{AreRows}
use Rattle.pig_plain.specs.Coming.{coming}
use Rattle.pig_plain.specs.Entered.{IsReady, entry_under}
use Rattle.pig_plain.proofs.entering.add_coming.Given as goal

abbrev pub invariant-batches : goal.invariant-batches
invariant-batches l = IsReady l.how l.builder.dirs × AreRows (coming l.walk)
    × (l.builder.entries ++ map (entry_under l.how) (coming l.walk) ≡ l.fn.builder.entries ++ map (entry_under l.how) (coming l.fn.walk))

abbrev pub decreases-batches : goal.decreases-batches
decreases-batches l = length (coming l.walk)
