use Rattle.std.proofs.Common.{◌≡◌, ◌++◌, length, map}
use Rattle.pig_value.specs.Trees.{rows_tree}
use Rattle.pig_value.specs.Valid.{AreRows}
use Rattle.pig_plan.specs.Entries.{dirs_of, sort_entry}
use Rattle.pig_plain.proofs.entering.add_sorting.Given as goal

abbrev pub invariant-rows : goal.invariant-rows
invariant-rows l = (l.builder.dirs ≡ dirs_of l.keys)
    × AreRows (rows_tree l.left)
    × (l.builder.entries ++ map (sort_entry l.keys) (rows_tree l.left) ≡ l.fn.builder.entries ++ map (sort_entry l.keys) (rows_tree l.rows))

abbrev pub decreases-rows : goal.decreases-rows
decreases-rows l = length l.left
