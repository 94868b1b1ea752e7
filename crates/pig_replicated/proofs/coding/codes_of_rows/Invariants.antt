-- The codes so far, and those that are to come.
use Rattle.std.proofs.Common.{◌≡◌, ◌++◌, drop, map}
use Rattle.pig_value.specs.Trees.{rows_tree}
use Rattle.pig_replicated.specs.Codes.{inner_code}
use Rattle.pig_replicated.proofs.coding.codes_of_rows.Given as goal

abbrev pub invariant-loop-row : goal.invariant-loop-row
invariant-loop-row l = map (λ row. row.items) l.codes.items ++ map inner_code (rows_tree (drop l.row-index l.rows)) ≡ map inner_code (rows_tree l.rows)
