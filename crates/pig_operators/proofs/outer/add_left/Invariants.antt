-- The rows so far.
use Rattle.std.proofs.Common.{◌≡◌, ◌++◌, map}
use Rattle.pig_value.specs.Trees.{rows_tree}
use Rattle.pig_plan.specs.ByKey.{nulls}
use Rattle.pig_operators.specs.Groups.{between}
use Rattle.pig_operators.proofs.outer.add_left.Given as goal

abbrev pub invariant-loop-at : goal.invariant-loop-at
invariant-loop-at l = rows_tree l.rows ≡ rows_tree l.fn.rows ++ map (λ row. row ++ nulls l.width) (map (λ e. e.row) (between l.own.from l.at l.own.run.now.entries))
