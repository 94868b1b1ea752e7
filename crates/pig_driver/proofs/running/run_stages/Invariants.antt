use Rattle.std.proofs.Common.{◌≡◌, ◌≤◌, ◌+◌, map, length}
use Rattle.std.specs.Prelude.{sum_by}
use Rattle.pig_physical.specs.Handed.{outs_of}
use Rattle.pig_physical.specs.Seen.{staged}
use Rattle.pig_pool.specs.Begins.{crew_tells}
use Rattle.pig_pool.specs.Wave.{failures_in}
use Rattle.pig_driver.specs.Begun.{WavesBegun}
use Rattle.pig_driver.specs.Going.{AreWon}
use Rattle.pig_driver.specs.Left.{IsGoing}
use Rattle.pig_driver.proofs.running.run_stages.Given as goal

abbrev pub invariant-loop-wave : goal.invariant-loop-wave
invariant-loop-wave g l =
    (map g.H.Host.inputs l.hosts ≡ map g.H.Host.inputs l.fn.hosts)
    × (length l.hosts ≡ length l.fn.hosts)
    × (sum_by g.H.Host.faults l.fn.hosts + sum_by failures_in l.ends ≤ sum_by g.H.Host.faults l.hosts)
    × IsGoing (staged l.stages) (map g.H.Host.inputs l.fn.hosts) (outs_of l.ran.outs) l.ran.shuffled l.wave l.wave
    × AreWon (staged l.stages) l.ends l.wave
    × WavesBegun 0 l.ends
    (crew_tells (map g.H.Host.faults l.fn.hosts) (map g.H.Host.begun l.fn.hosts))
    (crew_tells (map g.H.Host.faults l.hosts) (map g.H.Host.begun l.hosts))
