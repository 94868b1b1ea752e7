-- What is written and what is to come are the whole text.
use Rattle.std.proofs.Common.{◌≡◌, ◌++◌, map, drop, codes}
use Rattle.pig_explain.specs.Joins.{joined}
use Rattle.pig_explain.specs.KindTexts.{column_text}
use Rattle.pig_explain.proofs.kinds.put_columns.Given as goal

abbrev pub invariant-loop-column : goal.invariant-loop-column
invariant-loop-column l = l.out.items ++ joined (codes " ") (codes " ") (map column_text (drop l.column-index l.columns)) ≡ l.fn.out.items ++ joined (codes " ") (codes " ") (map column_text l.columns)
