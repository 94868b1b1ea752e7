use Rattle.std.proofs.Common.{◌≡◌, length}
use Rattle.std.specs.List.{list_all}
use Rattle.pig_value.specs.Trees.{rows_tree}
use Rattle.pig_typed.specs.Evaluation.{passes}
use Rattle.pig_typed.specs.Typed.{typed}
use Rattle.pig_stream.proofs.buffer.all_pass.Given as goal

abbrev pub invariant-rows : goal.invariant-rows
invariant-rows l = list_all (passes (typed l.cond)) (rows_tree l.left) ≡ list_all (passes (typed l.cond)) (rows_tree l.rows)

abbrev pub decreases-rows : goal.decreases-rows
decreases-rows l = length l.left
