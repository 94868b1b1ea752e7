use Rattle.std.proofs.Common.{◌≡◌}
use Rattle.pig_value.specs.Trees.{rows_tree}
use Rattle.pig_typed.specs.Typed.{typed}
use Rattle.pig_plan.specs.Operators.{filter_rows}
use Rattle.pig_plain.proofs.each_row.passing.Given as goal

abbrev pub invariant-loop-row : goal.invariant-loop-row
invariant-loop-row l = rows_tree l.kept ≡ filter_rows (typed l.cond) (rows_tree l.yielded)
