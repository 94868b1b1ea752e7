use Rattle.std.proofs.Common.{◌≡◌, ◌++◌, map, drop}
use Rattle.std.specs.List.{flat_map}
use Rattle.pig_schema.specs.FieldTrees.{schema_tree}
use Rattle.pig_relations.specs.Operators.{columns_under}
use Rattle.pig_relations.specs.Views.{input_tree}
use Rattle.pig_relations.proofs.operators.join_columns.Given as goal

abbrev pub invariant-loop-input : goal.invariant-loop-input
invariant-loop-input l =
    schema_tree l.columns ++ flat_map columns_under (map input_tree (drop l.input-index l.inputs)) ≡ flat_map columns_under (map input_tree l.inputs)
