use Rattle.std.proofs.Common.{◌≡◌, []}
use Rattle.pig_packed_tests.proofs.packing.by_values.Given as goal

-- no row is begun
abbrev pub invariant-loop-number : goal.invariant-loop-number
invariant-loop-number g l = l.built.begun ≡ []
