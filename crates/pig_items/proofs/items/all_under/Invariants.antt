use Rattle.std.proofs.Common.{◌≡◌, ◌++◌, map, drop}
use Rattle.pig_schema.specs.FieldTrees.{schema_tree}
use Rattle.pig_typing.specs.Parts.{under_name}
use Rattle.pig_items.proofs.items.all_under.Given as goal

abbrev pub invariant-loop-column : goal.invariant-loop-column
invariant-loop-column l = schema_tree l.columns.items ++ map (under_name l.outer) (schema_tree (drop l.column-index l.inner)) ≡ map (under_name l.outer) (schema_tree l.inner)
