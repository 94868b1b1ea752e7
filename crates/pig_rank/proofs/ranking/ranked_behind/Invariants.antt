use Rattle.std.proofs.Common.{◌≡◌, ◌++◌, drop}
use Rattle.pig_value.specs.Trees.{rows_tree}
use Rattle.pig_rank.specs.Walks.{passed_start, ranked_on}
use Rattle.pig_rank.proofs.ranking.ranked_behind.Given as goal

abbrev pub invariant-loop-row : goal.invariant-loop-row
invariant-loop-row l = rows_tree l.ranked ++ ranked_on l.keys l.dense (passed_start l.passed) (rows_tree (drop l.row-index l.rows)) ≡ ranked_on l.keys l.dense (passed_start l.fn.before) (rows_tree l.rows)
