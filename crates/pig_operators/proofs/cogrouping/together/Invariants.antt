-- The bags so far, the entries that remain, and whether none of an INNER input was empty.
use Rattle.std.proofs.Common.{◌≡◌, drop}
use Rattle.pig_value.specs.Trees.{row_tree, tree}
use Rattle.pig_plan.specs.ByKey.{all_there, bags_of, rows_of}
use Rattle.pig_operators.specs.Groups.{group_entries}
use Rattle.pig_operators.proofs.Inputs.{Remains}
use Rattle.pig_operators.proofs.cogrouping.together.Given as goal

abbrev pub invariant-loop-input : goal.invariant-loop-input
invariant-loop-input l =
    Remains l.group.run.now.entries l.group.from l.at l.group.end l.input
    × (row_tree l.row ≡ bags_of l.input (tree l.fn.key) (rows_of (group_entries l.group.run.now l.group.from l.group.end)))
    × (all_there (drop l.input l.inner) l.input (rows_of (group_entries l.group.run.now l.group.from l.group.end)) ≡ all_there l.inner 0 (rows_of (group_entries l.group.run.now l.group.from l.group.end)))
