-- The rows so far, and those of the groups to come.
use Rattle.std.proofs.Common.{◌≡◌, ◌≤◌, ◌-◌, ◌++◌, length}
use Rattle.pig_value.specs.Trees.{rows_tree}
use Rattle.pig_operators.specs.Given.{to_come}
use Rattle.pig_operators.proofs.batches.add_batch.Given as goal

abbrev pub invariant-groups : goal.invariant-groups
invariant-groups l = (rows_tree l.fn.rows ++ to_come l.how l.run l.from ≡ rows_tree l.rows ++ to_come l.how l.run l.next) × (l.from ≤ l.next)

abbrev pub decreases-groups : goal.decreases-groups
decreases-groups l = length l.run.entries - l.next
