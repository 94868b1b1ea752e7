use Rattle.std.proofs.Common.{◌≡◌, length}
use Rattle.pig_physical.specs.Handed.{outs_of}
use Rattle.pig_physical.specs.Seen.{staged}
use Rattle.pig_tasks_tests.specs.Fits.{AllFit}
use Rattle.pig_tasks_tests.proofs.running.all_waves.Given as goal

abbrev pub invariant-loop-wave : goal.invariant-loop-wave
invariant-loop-wave g l = (length l.outs ≡ l.wave) × AllFit (staged l.stages) (outs_of l.outs)
