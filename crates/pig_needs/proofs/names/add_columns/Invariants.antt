use Rattle.std.proofs.Common.{◌≡◌, ◌++◌, map, length}
use Rattle.pig_needs.specs.Needed.{column_of}
use Rattle.pig_needs.proofs.names.add_columns.Given as goal

abbrev pub invariant-loop-left : goal.invariant-loop-left
invariant-loop-left l = l.found ++ map (column_of l.position) l.left ≡ l.initial.found ++ map (column_of l.position) l.columns

abbrev pub decreases-loop-left : goal.decreases-loop-left
decreases-loop-left l = length l.left
