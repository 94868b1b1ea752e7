use Rattle.std.proofs.Common.{◌≡◌, ◌++◌, length}
use Rattle.pig_value.specs.Trees.{rows_tree}
use Rattle.pig_plain.specs.Coming.{coming}
use Rattle.pig_plain.proofs.rowwise.begun.Given as goal

abbrev pub invariant-batches : goal.invariant-batches
invariant-batches l = rows_tree l.made ++ coming l.walk ≡ coming l.fn.walk

abbrev pub decreases-batches : goal.decreases-batches
decreases-batches l = length (coming l.walk)
