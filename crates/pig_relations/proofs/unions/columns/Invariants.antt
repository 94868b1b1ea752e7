use Rattle.std.proofs.Common.{◌≡◌, ◌++◌, drop}
use Rattle.pig_schema.specs.FieldTrees.{schema_tree}
use Rattle.pig_relations.specs.Views.{fields_seen}
use Rattle.pig_relations.proofs.unions.columns.Given as goal

abbrev pub invariant-loop-column : goal.invariant-loop-column
invariant-loop-column l =
    fields_seen l.row.items ++ schema_tree (drop l.column-index l.fields) ≡ schema_tree l.fields
