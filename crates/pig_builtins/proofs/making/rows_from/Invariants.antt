use Rattle.std.proofs.Common.{◌≡◌, ◌++◌, drop}
use Rattle.std.specs.Option.{option_map}
use Rattle.pig_value.specs.FieldReader.{all_of}
use Rattle.pig_value.specs.Functions.{row_from}
use Rattle.pig_value.specs.Trees.{row_tree, rows_tree}
use Rattle.pig_builtins.proofs.making.rows_from.Given as goal

abbrev pub invariant-loop-arg : goal.invariant-loop-arg
invariant-loop-arg l =
    option_map (λ more. rows_tree l.rows ++ more) (all_of (row_from l.width) (row_tree (drop l.arg-index l.args))) ≡ all_of (row_from l.width) (row_tree l.args)
