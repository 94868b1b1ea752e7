use Rattle.std.proofs.Common.{◌≡◌, ◌++◌, length}
use Rattle.std.specs.List.{flat_map}
use Rattle.pig_run.specs.Running.{noted_line}
use Rattle.pig_run.proofs.texts.done_bytes.Given as goal

abbrev pub invariant-loop-left : goal.invariant-loop-left
invariant-loop-left l = l.out.items ++ flat_map noted_line l.left ≡ flat_map noted_line l.notes

abbrev pub decreases-loop-left : goal.decreases-loop-left
decreases-loop-left l = length l.left
