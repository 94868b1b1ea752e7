use Rattle.std.proofs.Common.{◌≡◌, take}
use Rattle.pig_nested.proofs.steps.copied.Given as goal

abbrev pub invariant-loop-row : goal.invariant-loop-row
invariant-loop-row l = l.made.items ≡ take l.row-index l.rows
