-- The rows so far.
use Rattle.std.proofs.Common.{◌≡◌, map}
use Rattle.pig_value.specs.Trees.{rows_tree}
use Rattle.pig_operators.specs.Groups.{between}
use Rattle.pig_operators.proofs.groups.rows_of.Given as goal

abbrev pub invariant-loop-at : goal.invariant-loop-at
invariant-loop-at l = rows_tree l.rows ≡ map (λ e. e.row) (between l.stretch.from l.at l.stretch.run.now.entries)
