use Rattle.std.proofs.Common.{◌≡◌, ◌++◌, length}
use Rattle.std.specs.List.{filter_map}
use Rattle.pig_needs.specs.Needed.{column_in}
use Rattle.pig_needs.proofs.uses.add_columns_in.Given as goal

abbrev pub invariant-loop-left : goal.invariant-loop-left
invariant-loop-left l = l.found ++ filter_map (column_in l.bag) l.left ≡ l.initial.found ++ filter_map (column_in l.bag) l.own

abbrev pub decreases-loop-left : goal.decreases-loop-left
decreases-loop-left l = length l.left
