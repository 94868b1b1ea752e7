use Rattle.std.proofs.Common.{◌≡◌, map, take}
use Rattle.pig_value.specs.Trees.{row_tree}
use Rattle.pig_typed.specs.Operators.{pick}
use Rattle.pig_eval.proofs.projecting.pick_row.Given as goal

abbrev pub invariant-loop-n : goal.invariant-loop-n
invariant-loop-n l = row_tree l.made.items ≡ pick (take l.n-index l.fields) (row_tree l.row)
