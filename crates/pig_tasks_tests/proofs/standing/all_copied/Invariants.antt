use Rattle.std.proofs.Common.{◌<◌, ℕ}
use Rattle.pig_physical.specs.Handed.{outs_of}
use Rattle.pig_physical.specs.Seen.{staged}
use Rattle.pig_tasks_tests.specs.Fits.{CopiedAt}
use Rattle.pig_tasks_tests.proofs.standing.all_copied.Given as goal

abbrev pub invariant-loop-wave : goal.invariant-loop-wave
invariant-loop-wave l = (w : ℕ) → w < l.wave → CopiedAt (staged l.stages) (outs_of l.prior) l.node w
