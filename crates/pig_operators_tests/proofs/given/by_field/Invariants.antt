use Rattle.std.proofs.Common.{◌≡◌, []}
use Rattle.pig_operators_tests.proofs.given.by_field.Given as goal

abbrev pub invariant-loop-text : goal.invariant-loop-text
invariant-loop-text l = l.builder.dirs ≡ []
