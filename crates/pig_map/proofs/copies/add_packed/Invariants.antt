use Rattle.std.proofs.Common.{◌≡◌, ◌++◌, take}
use Rattle.pig_value.specs.Trees.{rows_tree}
use Rattle.pig_value.specs.Valid.{AreRows}
use Rattle.pig_map.proofs.copies.add_packed.Given as goal

abbrev pub invariant-loop-at : goal.invariant-loop-at
invariant-loop-at l = (rows_tree l.rows ≡ rows_tree l.fn.rows ++ take l.at l.packed) × (AreRows (rows_tree l.fn.rows) → AreRows (rows_tree l.rows))
