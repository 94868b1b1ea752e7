use Rattle.std.proofs.Common.{◌≡◌, ◌++◌, map, drop}
use Rattle.pig_value.specs.Trees.{kind_tree}
use Rattle.pig_schema.specs.FieldTrees.{schema_tree}
use Rattle.pig_relations.specs.Operators.{bag_column, group_columns}
use Rattle.pig_relations.specs.Views.{input_tree}
use Rattle.pig_relations.proofs.operators.group_columns.Given as goal

abbrev pub invariant-loop-input : goal.invariant-loop-input
invariant-loop-input l =
    schema_tree l.columns ++ map (λ t. bag_column t.alias t.relation.columns) (map input_tree (drop l.input-index l.inputs))
    ≡ group_columns (record { inputs = map input_tree l.inputs; kinds = map kind_tree l.kinds })
