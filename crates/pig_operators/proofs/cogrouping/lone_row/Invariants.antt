-- The bags so far.
use Rattle.std.proofs.Common.{◌≡◌, map}
use Rattle.pig_value.specs.Trees.{row_tree, tree}
use Rattle.pig_plan.specs.ByKey.{bags_of}
use Rattle.pig_operators.specs.Groups.{between, rows_alone}
use Rattle.pig_operators.proofs.cogrouping.lone_row.Given as goal

abbrev pub invariant-loop-i : goal.invariant-loop-i
invariant-loop-i l = row_tree l.row ≡ bags_of l.i (tree l.key) (rows_alone l.input (map (λ e. e.row) (between l.own.from l.own.end l.own.run.now.entries)))
