use Rattle.std.proofs.Common.{◌≡◌, take}
use Rattle.pig_plan.proofs.copying.copy_columns.Given as goal

abbrev pub invariant-loop-column : goal.invariant-loop-column
invariant-loop-column l = l.made.items ≡ take l.column-index l.columns
