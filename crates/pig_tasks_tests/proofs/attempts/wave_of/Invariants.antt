use Rattle.std.proofs.Common.{◌≡◌, length, map}
use Rattle.pig_physical.specs.Handed.{out_of}
use Rattle.pig_physical.specs.Seen.{staged}
use Rattle.pig_tasks_tests.specs.Fits.{WaveFits}
use Rattle.pig_tasks_tests.proofs.attempts.wave_of.Given as goal

abbrev pub invariant-loop-at : goal.invariant-loop-at
invariant-loop-at g l = (length l.outs ≡ l.at) × WaveFits (staged l.stages) l.wave (map out_of l.outs)
