use Rattle.std.proofs.Common.{◌≡◌, ◌++◌, drop}
use Rattle.pig_schema.specs.FieldTrees.{schema_tree}
use Rattle.pig_check.specs.Operators.{columns_from}
use Rattle.pig_check.proofs.operators.columns_read.Given as goal

abbrev pub invariant-loop-column : goal.invariant-loop-column
invariant-loop-column l =
    l.read ++ columns_from l.position (schema_tree (drop l.column-index l.columns)) ≡ columns_from 0 (schema_tree l.columns)
