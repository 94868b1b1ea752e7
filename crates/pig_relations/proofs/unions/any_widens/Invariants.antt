use Rattle.std.proofs.Common.{◌≡◌, map, drop}
use Rattle.pig_value.specs.Trees.{kind_tree}
use Rattle.pig_schema.specs.FieldTrees.{schema_tree, tree_kind}
use Rattle.pig_relations.specs.Unions.{any_widens}
use Rattle.pig_relations.proofs.unions.any_widens.Given as goal

abbrev pub invariant-loop-column : goal.invariant-loop-column
invariant-loop-column l =
    any_widens (map tree_kind (schema_tree (drop l.column-index l.columns))) (map kind_tree l.left)
    ≡ any_widens (map tree_kind (schema_tree l.columns)) (map kind_tree l.kinds)
