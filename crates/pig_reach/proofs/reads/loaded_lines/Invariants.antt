use Rattle.std.proofs.Common.{◌≡◌, length}
use Rattle.pig_plan.specs.Operators.{pieces_of}
use Rattle.pig_reach.proofs.reads.loaded_lines.Given as goal

abbrev pub invariant-loop-left : goal.invariant-loop-left
invariant-loop-left l = pieces_of l.left l.path ≡ pieces_of l.inputs l.path

abbrev pub decreases-loop-left : goal.decreases-loop-left
decreases-loop-left l = length l.left
