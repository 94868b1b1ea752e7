use Rattle.std.proofs.Common.{drop, take}
use Rattle.pig_value.specs.Trees.{rows_tree}
use Rattle.pig_value.specs.Valid.{AreRows}
use Rattle.pig_shuffle.specs.Held.{TookMore}
use Rattle.pig_shuffle.proofs.shuffle.ShuffleSink.take.Given as goal

abbrev pub invariant-loop-row : goal.invariant-loop-row
invariant-loop-row l = AreRows (rows_tree (drop l.row-index l.rows)) × TookMore l.fn.self (rows_tree (take l.row-index l.rows)) l.self
