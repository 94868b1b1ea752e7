-- The rows so far, and those that are to come.
use Rattle.std.proofs.Common.{◌≡◌, ◌≤◌, ◌-◌, ◌++◌, map, drop, length}
use Rattle.pig_value.specs.Orders.{row_cmp}
use Rattle.pig_value.specs.Sorts.{distinct}
use Rattle.pig_value.specs.Trees.{rows_tree}
use Rattle.pig_operators.specs.Given.{run_rows}
use Rattle.pig_operators.proofs.whole.distinct_keys.Given as goal

abbrev pub invariant-groups : goal.invariant-groups
invariant-groups l = (l.from ≤ length l.fn.run.entries) × (rows_tree l.rows ++ distinct row_cmp (map (λ e. e.row) (drop l.from l.fn.run.entries)) ≡ distinct row_cmp (run_rows l.fn.run))

abbrev pub decreases-groups : goal.decreases-groups
decreases-groups l = length l.fn.run.entries - l.from
