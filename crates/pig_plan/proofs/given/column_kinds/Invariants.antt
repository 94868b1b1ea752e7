use Rattle.std.proofs.Common.{◌≡◌, map, take}
use Rattle.pig_value.specs.Trees.{kind_tree}
use Rattle.pig_plan.proofs.given.column_kinds.Given as goal

abbrev pub invariant-loop-column : goal.invariant-loop-column
invariant-loop-column l = map kind_tree l.kinds.items ≡ map (λ column. kind_tree column.kind) (take l.column-index l.columns)
