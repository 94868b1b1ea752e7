use Rattle.std.proofs.Common.{◌<◌, ℕ}
use Rattle.pig_physical.specs.Seen.{staged}
use Rattle.pig_map_tests.specs.First.{CopiesFirst}
use Rattle.pig_map_tests.proofs.standing.first_copies.Given as goal

abbrev pub invariant-loop-wave : goal.invariant-loop-wave
invariant-loop-wave l = (w : ℕ) → w < l.wave → CopiesFirst (staged l.stages) w
