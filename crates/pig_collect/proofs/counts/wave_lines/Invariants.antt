use Rattle.std.proofs.Common.{◌≡◌, ◌+◌, ◌%◌, ◌^◌, length, map}
use Rattle.pig_physical.specs.Handed.{out_of}
use Rattle.pig_collect.specs.Tallies.{wave_lines}
use Rattle.pig_collect.proofs.counts.wave_lines.Given as goal

abbrev pub invariant-loop-left : goal.invariant-loop-left
invariant-loop-left l = (l.count + wave_lines (map out_of l.left)) % 2 ^ 64 ≡ wave_lines (map out_of l.outs) % 2 ^ 64

abbrev pub decreases-loop-left : goal.decreases-loop-left
decreases-loop-left l = length l.left
