-- The codes so far, and those that are to come.
use Rattle.std.proofs.Common.{◌≡◌, ◌++◌, drop}
use Rattle.pig_value.specs.Trees.{row_tree}
use Rattle.pig_replicated.specs.Codes.{inner_code}
use Rattle.pig_replicated.proofs.coding.code_of_fields.Given as goal

abbrev pub invariant-loop-field : goal.invariant-loop-field
invariant-loop-field l = l.bytes.items ++ inner_code (row_tree (drop l.field-index l.fields)) ≡ inner_code (row_tree l.fields)
