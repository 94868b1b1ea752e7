-- The codes so far, and those that are to come.
use Rattle.std.proofs.Common.{◌≡◌, ◌++◌, drop}
use Rattle.pig_value.specs.Trees.{row_tree}
use Rattle.pig_replicated.specs.Codes.{inner_code}
use Rattle.pig_probe.specs.Begun.{begun_code}
use Rattle.pig_probe.proofs.pieces.begin_row.Given as goal

abbrev pub invariant-loop-field : goal.invariant-loop-field
invariant-loop-field l = l.front.items ++ inner_code (row_tree (drop l.field-index l.fields)) ≡ begun_code (row_tree l.fields)
