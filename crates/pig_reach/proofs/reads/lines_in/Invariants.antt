use Rattle.std.proofs.Common.{◌≡◌, ◌+◌, ◌%◌, ◌^◌, length}
use Rattle.std.specs.List.{flat_map}
use Rattle.pig_value.specs.Lines.{lines}
use Rattle.pig_reach.proofs.reads.lines_in.Given as goal

abbrev pub invariant-loop-left : goal.invariant-loop-left
invariant-loop-left l = (l.count + length (flat_map lines l.left)) % 2 ^ 64 ≡ length (flat_map lines l.pieces) % 2 ^ 64

abbrev pub decreases-loop-left : goal.decreases-loop-left
decreases-loop-left l = length l.left
