-- The rows so far, which are of values.
use Rattle.std.proofs.Common.{◌≡◌, map}
use Rattle.pig_value.specs.Trees.{rows_tree}
use Rattle.pig_value.specs.Valid.{AreRows}
use Rattle.pig_operators.specs.Groups.{between}
use Rattle.pig_reduce.proofs.reading.rows_of.Given as goal

abbrev pub invariant-loop-at : goal.invariant-loop-at
invariant-loop-at l = (rows_tree l.rows ≡ map (λ e. e.row) (between l.from l.at l.entries.entries)) × AreRows (rows_tree l.rows)
