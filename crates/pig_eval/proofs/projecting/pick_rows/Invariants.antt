use Rattle.std.proofs.Common.{◌≡◌, map, take}
use Rattle.pig_value.specs.Trees.{rows_tree}
use Rattle.pig_typed.specs.Operators.{pick}
use Rattle.pig_eval.proofs.projecting.pick_rows.Given as goal

abbrev pub invariant-loop-row : goal.invariant-loop-row
invariant-loop-row l = rows_tree l.made.items ≡ map (pick l.fields) (rows_tree (take l.row-index l.rows))
