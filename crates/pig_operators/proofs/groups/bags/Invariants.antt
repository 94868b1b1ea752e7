-- The bags so far, and the entries that remain.
use Rattle.std.proofs.Common.{◌≡◌, map}
use Rattle.std.specs.List.{range_with_len}
use Rattle.pig_value.specs.Trees.{rows_tree}
use Rattle.pig_plan.specs.ByKey.{rows_of}
use Rattle.pig_operators.specs.Groups.{group_entries}
use Rattle.pig_operators.proofs.Inputs.{Remains}
use Rattle.pig_operators.proofs.groups.bags.Given as goal

abbrev pub invariant-loop-input : goal.invariant-loop-input
invariant-loop-input l =
    Remains l.group.run.now.entries l.group.from l.at l.group.end l.input × (map rows_tree l.bags ≡ map (rows_of (group_entries l.group.run.now l.group.from l.group.end)) (range_with_len 0 l.input))
