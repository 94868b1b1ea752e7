use Rattle.std.proofs.Common.{◌≡◌, ◌++◌, drop}
use Rattle.pig_value.specs.Trees.{row_tree}
use Rattle.pig_plan.specs.Operators.{key_fields}
use Rattle.pig_shuffle.proofs.keying.fields.Given as goal

abbrev pub invariant-loop-key : goal.invariant-loop-key
invariant-loop-key l = row_tree l.found ++ key_fields (drop l.key-index l.keys) (row_tree l.row) ≡ key_fields l.keys (row_tree l.row)
