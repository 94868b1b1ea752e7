use Rattle.std.proofs.Common.{length}
use Rattle.pig_plain.specs.Tables.{IsUsed}
use Rattle.pig_plain.proofs.table.Table.release_each.Given as goal

abbrev pub invariant-nodes : goal.invariant-nodes
invariant-nodes l = IsUsed l.fn.self l.self

abbrev pub decreases-nodes : goal.decreases-nodes
decreases-nodes l = length l.left
