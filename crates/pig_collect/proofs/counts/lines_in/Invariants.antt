use Rattle.std.proofs.Common.{◌≡◌, ◌+◌, ◌%◌, ◌^◌, length}
use Rattle.pig_physical.specs.Handed.{outs_of}
use Rattle.pig_collect.specs.Collecting.{lines_in}
use Rattle.pig_collect.proofs.counts.lines_in.Given as goal

abbrev pub invariant-loop-left : goal.invariant-loop-left
invariant-loop-left l = (l.count + lines_in (outs_of l.left)) % 2 ^ 64 ≡ lines_in (outs_of l.outs) % 2 ^ 64

abbrev pub decreases-loop-left : goal.decreases-loop-left
decreases-loop-left l = length l.left
