use Rattle.std.proofs.Common.{◌≡◌, ◌++◌, map, drop}
use Rattle.pig_schema.specs.FieldTrees.{schema_tree}
use Rattle.pig_syntax.specs.ExprTrees.{field_form}
use Rattle.pig_items.specs.Items.{each_renamed}
use Rattle.pig_typing.specs.Results.{checked_map}
use Rattle.pig_items.proofs.items.each_renamed.Given as goal

abbrev pub invariant-loop-column : goal.invariant-loop-column
invariant-loop-column l =
    checked_map (λ more. schema_tree l.made ++ more) (each_renamed (schema_tree (drop l.column-index l.columns)) (map field_form l.left))
    ≡ each_renamed (schema_tree l.columns) (map field_form l.fields)
