use Rattle.std.proofs.Common.{length}
use Rattle.pig_plain.specs.Tables.{IsUsed}
use Rattle.pig_plain.proofs.table.Table.release_keyed.Given as goal

abbrev pub invariant-inputs : goal.invariant-inputs
invariant-inputs l = IsUsed l.fn.self l.self

abbrev pub decreases-inputs : goal.decreases-inputs
decreases-inputs l = length l.left
