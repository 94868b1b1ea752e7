use Rattle.std.proofs.Common.{◌≡◌, ◌++◌, map, drop, length}
use Rattle.pig_value.specs.Trees.{kind_tree}
use Rattle.pig_schema.specs.FieldTrees.{schema_tree, tree_kind}
use Rattle.pig_typed.specs.Typed.{item_typed}
use Rattle.pig_relations.specs.Unions.{widened_fields}
use Rattle.pig_relations.proofs.unions.widened_fields.Given as goal

abbrev pub invariant-loop-column : goal.invariant-loop-column
invariant-loop-column l =
    (length l.items ≡ l.column-index) × (map item_typed l.items ++ widened_fields l.column-index (map tree_kind (schema_tree (drop l.column-index l.columns))) (map kind_tree l.left)
    ≡ widened_fields 0 (map tree_kind (schema_tree l.columns)) (map kind_tree l.kinds))
