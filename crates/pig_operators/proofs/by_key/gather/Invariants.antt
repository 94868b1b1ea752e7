-- The rows so far, and those of the groups to come.
use Rattle.std.proofs.Common.{◌≡◌, ◌≤◌, ◌-◌, ◌++◌, length}
use Rattle.pig_value.specs.Trees.{rows_tree}
use Rattle.pig_plan.specs.ByKey.{gathered}
use Rattle.pig_operators.specs.Given.{made, to_come}
use Rattle.pig_operators.proofs.by_key.gather.Given as goal

abbrev pub invariant-groups : goal.invariant-groups
invariant-groups l = (l.from ≤ length l.fn.run.entries) × (rows_tree l.rows ++ to_come l.how l.fn.run l.from ≡ gathered (made l.how) l.fn.run.entries)

abbrev pub decreases-groups : goal.decreases-groups
decreases-groups l = length l.fn.run.entries - l.from
