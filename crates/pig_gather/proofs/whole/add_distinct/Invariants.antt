-- The rows so far, and those that are to come.
use Rattle.std.proofs.Common.{◌≡◌, ◌≤◌, ◌-◌, ◌++◌, [], map, drop, length}
use Rattle.pig_value.specs.Orders.{row_cmp}
use Rattle.pig_value.specs.Sorts.{distinct}
use Rattle.pig_operators.specs.Given.{run_rows}
use Rattle.pig_gather.proofs.whole.add_distinct.Given as goal

abbrev pub invariant-groups : goal.invariant-groups
invariant-groups l =
    (l.from ≤ length l.entries.entries)
    × (l.built.begun ≡ [])
    × (l.built.rows ++ distinct row_cmp (map (λ e. e.row) (drop l.from l.entries.entries)) ≡ l.fn.built.rows ++ distinct row_cmp (run_rows l.entries))

abbrev pub decreases-groups : goal.decreases-groups
decreases-groups l = length l.entries.entries - l.from
