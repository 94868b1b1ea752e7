-- The rows so far.
use Rattle.std.proofs.Common.{◌≡◌, take, drop}
use Rattle.pig_value.specs.Trees.{rows_tree}
use Rattle.pig_packed.proofs.rows.Packed.between.Given as goal

abbrev pub invariant-loop-at : goal.invariant-loop-at
invariant-loop-at l = rows_tree l.rows ≡ drop l.from (take l.at l.self)
