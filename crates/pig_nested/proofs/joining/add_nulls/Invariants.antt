use Rattle.std.proofs.Common.{◌≡◌, ◌++◌}
use Rattle.std.proofs.Math.ListN.{replicate}
use Rattle.pig_value.specs.Trees.{row_tree, v_null}
use Rattle.pig_nested.proofs.joining.add_nulls.Given as goal

abbrev pub invariant-loop-i : goal.invariant-loop-i
invariant-loop-i l = row_tree l.row ≡ row_tree l.fn.row ++ replicate l._i v_null
