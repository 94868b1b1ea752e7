-- The values so far, and those that are to come.
use Rattle.std.proofs.Common.{◌≡◌, ◌++◌, drop, map}
use Rattle.pig_value.specs.Trees.{row_tree}
use Rattle.pig_typed.specs.Typed.{typed}
use Rattle.pig_plan.specs.Operators.{keys_of}
use Rattle.pig_replicated.proofs.keys.part_values.Given as goal

abbrev pub invariant-loop-key : goal.invariant-loop-key
invariant-loop-key l = row_tree l.values ++ keys_of (map typed (drop l.key-index l.keys)) (row_tree l.row) ≡ keys_of (map typed l.keys) (row_tree l.row)
