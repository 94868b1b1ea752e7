-- The rows so far, and those that are to come.
use Rattle.std.proofs.Common.{◌≡◌, ◌++◌, drop, map}
use Rattle.pig_value.specs.Trees.{rows_tree}
use Rattle.pig_typed.specs.Typed.{typed}
use Rattle.pig_replicated.specs.Held.{keyed_of}
use Rattle.pig_replicated.specs.Holding.{keyed_row}
use Rattle.pig_replicated.proofs.building.held_rows.Given as goal

abbrev pub invariant-loop-row : goal.invariant-loop-row
invariant-loop-row l =
    map keyed_of l.held.items ++ map (keyed_row (map typed l.keys)) (rows_tree (drop l.row-index l.rows)) ≡ map (keyed_row (map typed l.keys)) (rows_tree l.rows)
