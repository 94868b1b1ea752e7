use Rattle.std.proofs.Common.{◌≡◌, ◌++◌, map, drop}
use Rattle.std.specs.Prelude.{Some}
use Rattle.pig_schema.specs.FieldTrees.{schema_tree}
use Rattle.pig_typing.specs.Parts.{under_name}
use Rattle.pig_relations.proofs.columns.all_under.Given as goal

abbrev pub invariant-loop-field : goal.invariant-loop-field
invariant-loop-field l =
    schema_tree l.columns ++ map (under_name (Some l.alias)) (schema_tree (drop l.field-index l.fields))
    ≡ schema_tree l.fn.columns ++ map (under_name (Some l.alias)) (schema_tree l.fields)
