-- The nulls so far.
use Rattle.std.proofs.Common.{◌≡◌, ◌++◌}
use Rattle.pig_value.specs.Trees.{row_tree}
use Rattle.pig_plan.specs.ByKey.{nulls}
use Rattle.pig_replicated.proofs.probing.add_nulls.Given as goal

abbrev pub invariant-loop-i : goal.invariant-loop-i
invariant-loop-i l = row_tree l.row ≡ row_tree l.fn.row ++ nulls l._i
