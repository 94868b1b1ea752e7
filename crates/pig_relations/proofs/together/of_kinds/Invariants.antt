use Rattle.std.proofs.Common.{◌≡◌, ◌++◌, map, drop}
use Rattle.pig_value.specs.Trees.{kind_tree}
use Rattle.pig_schema.specs.FieldTrees.{schema_tree}
use Rattle.pig_relations.specs.Together.{of_kinds}
use Rattle.pig_relations.specs.Views.{fields_seen}
use Rattle.pig_relations.proofs.together.of_kinds.Given as goal

abbrev pub invariant-loop-kind : goal.invariant-loop-kind
invariant-loop-kind l =
    schema_tree l.made ++ of_kinds (map kind_tree (drop l.kind-index l.kinds)) (fields_seen l.left) ≡ of_kinds (map kind_tree l.kinds) (fields_seen l.columns)
