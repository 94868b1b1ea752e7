use Rattle.std.proofs.Common.{◌≡◌, ◌++◌, drop}
use Rattle.std.specs.List.{filter}
use Rattle.pig_value.specs.Trees.{rows_tree}
use Rattle.pig_typed.specs.Evaluation.{passes}
use Rattle.pig_typed.specs.Typed.{typed}
use Rattle.pig_nested.proofs.steps.passing.Given as goal

abbrev pub invariant-loop-row : goal.invariant-loop-row
invariant-loop-row l =
    rows_tree l.kept ++ filter (passes (typed l.cond)) (rows_tree (drop l.row-index l.row-items)) ≡ filter (passes (typed l.cond)) (rows_tree l.rows)
