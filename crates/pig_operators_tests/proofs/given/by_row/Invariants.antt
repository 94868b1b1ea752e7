use Rattle.std.proofs.Common.{◌≡◌, []}
use Rattle.pig_operators.specs.Given.{AreKeyedByRow}
use Rattle.pig_operators_tests.proofs.given.by_row.Given as goal

abbrev pub invariant-loop-text : goal.invariant-loop-text
invariant-loop-text l = (l.builder.dirs ≡ []) × AreKeyedByRow l.builder.entries
