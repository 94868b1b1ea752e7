use Rattle.std.proofs.Common.{◌≡◌, drop}
use Rattle.pig_value.specs.Trees.{rows_tree}
use Rattle.pig_rank.specs.Walks.{and_rows, passed_start}
use Rattle.pig_rank.proofs.summing.pass.Given as goal

abbrev pub invariant-loop-row : goal.invariant-loop-row
invariant-loop-row l = and_rows l.keys (passed_start l.passed) (rows_tree (drop l.row-index l.rows)) ≡ and_rows l.keys (passed_start l.fn.before) (rows_tree l.rows)
