-- The fields so far.
use Rattle.std.proofs.Common.{◌≡◌}
use Rattle.std.specs.List.{flat_map}
use Rattle.pig_value.specs.Trees.{row_tree}
use Rattle.pig_operators.specs.Groups.{between}
use Rattle.pig_operators.proofs.groups.one_row.Given as goal

abbrev pub invariant-loop-at : goal.invariant-loop-at
invariant-loop-at l = row_tree l.row ≡ flat_map (λ e. e.row) (between l.group.from l.at l.group.run.now.entries)
