-- The rows ascend where those that are left do.
use Rattle.std.proofs.Common.{length}
use Rattle.std.specs.Prelude.{◌↔◌}
use Rattle.pig_value.specs.Trees.{rows_tree}
use Rattle.pig_value.specs.Orders.{row_cmp}
use Rattle.pig_value.specs.Sorts.{Ascends}
use Rattle.pig_keycode.proofs.decoding.is_bag.Given as goal

abbrev pub invariant-loop-rest : goal.invariant-loop-rest
invariant-loop-rest l = Ascends row_cmp (rows_tree l.rows) ↔ Ascends row_cmp (rows_tree l.rest)

abbrev pub decreases-loop-rest : goal.decreases-loop-rest
decreases-loop-rest l = length l.rest
