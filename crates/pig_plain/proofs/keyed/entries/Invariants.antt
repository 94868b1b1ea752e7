use Rattle.std.proofs.Common.{◌≡◌, ◌++◌, [], length, map}
use Rattle.pig_value.specs.Valid.{IsValue}
use Rattle.pig_plan.specs.Laws.{KeyLiteralsAre}
use Rattle.pig_plan.specs.Operators.{keyed_entries}
use Rattle.pig_plan.specs.Plans.{keyed_of}
use Rattle.pig_plain.specs.Tables.{IsUsed, rows_of}
use Rattle.pig_plain.proofs.keyed.entries.Given as goal

abbrev pub invariant-inputs : goal.invariant-inputs
invariant-inputs l = (l.builder.dirs ≡ [])
    × KeyLiteralsAre IsValue (map keyed_of l.left)
    × IsUsed l.fn.table l.table
    × (l.builder.entries ++ keyed_entries l.place (map keyed_of l.left) (rows_of l.table) ≡ keyed_entries 0 (map keyed_of l.inputs) (rows_of l.fn.table))

abbrev pub decreases-inputs : goal.decreases-inputs
decreases-inputs l = length l.left
