-- The rows so far, and the entries that remain.
use Rattle.std.proofs.Common.{◌≡◌, ◌++◌}
use Rattle.pig_value.specs.Trees.{rows_tree, tree}
use Rattle.pig_plan.specs.ByKey.{rows_of}
use Rattle.pig_operators.specs.Groups.{apart_rows, group_entries}
use Rattle.pig_operators.proofs.Inputs.{Remains}
use Rattle.pig_operators.proofs.cogrouping.add_apart.Given as goal

abbrev pub invariant-loop-input : goal.invariant-loop-input
invariant-loop-input l =
    Remains l.group.run.now.entries l.group.from l.at l.group.end l.input
    × (rows_tree l.rows ≡ rows_tree l.fn.rows ++ apart_rows l.inner (tree l.key) (rows_of (group_entries l.group.run.now l.group.from l.group.end)) l.input)
