use Rattle.std.proofs.Common.{◌≡◌, ◌++◌, length}
use Rattle.std.specs.List.{flat_map}
use Rattle.pig_value.specs.Trees.{rows_tree}
use Rattle.pig_plain.specs.Tables.{IsUsed, rows_of}
use Rattle.pig_plain.proofs.rowwise.united.Given as goal

abbrev pub invariant-inputs : goal.invariant-inputs
invariant-inputs l = IsUsed l.fn.table l.table
    × (rows_tree l.made ++ flat_map (rows_of l.table) l.left ≡ flat_map (rows_of l.fn.table) l.inputs)

abbrev pub decreases-inputs : goal.decreases-inputs
decreases-inputs l = length l.left
