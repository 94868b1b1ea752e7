use Rattle.std.proofs.Common.{◌≡◌, ◌++◌, map, drop}
use Rattle.pig_schema.specs.FieldTrees.{schema_tree}
use Rattle.pig_typing.specs.Parts.{typed_column}
use Rattle.pig_typing.specs.Views.{typing_tree}
use Rattle.pig_typing.proofs.calls.columns.Given as goal

abbrev pub invariant-loop-arg : goal.invariant-loop-arg
invariant-loop-arg l = schema_tree l.columns.items ++ map typed_column (map typing_tree (drop l.arg-index l.args)) ≡ map typed_column (map typing_tree l.args)
