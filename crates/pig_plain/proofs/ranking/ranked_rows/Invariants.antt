use Rattle.std.proofs.Common.{◌≡◌, ◌++◌, ◌∷◌, drop, map}
use Rattle.pig_value.specs.Trees.{rows_tree}
use Rattle.pig_plan.specs.Operators.{rank_of, rank_rows}
use Rattle.pig_plain.proofs.ranking.ranked_rows.Given as goal

abbrev pub invariant-loop-row : goal.invariant-loop-row
invariant-loop-row l = rows_tree l.made ++ map (λ row. rank_of l.keys l.dense (rows_tree l.rows) row ∷ row) (rows_tree (drop l.row-index l.rows)) ≡ rank_rows l.keys l.dense (rows_tree l.rows)
