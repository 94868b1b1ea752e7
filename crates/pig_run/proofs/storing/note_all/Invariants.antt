use Rattle.std.proofs.Common.{◌≡◌, ◌++◌, length, map}
use Rattle.std.specs.List.{AllByRecursion}
use Rattle.pig_commit.specs.Committed.{HasFewParts}
use Rattle.pig_run.specs.Running.{note_of}
use Rattle.pig_run.proofs.storing.note_all.Given as goal

abbrev pub invariant-loop-left : goal.invariant-loop-left
invariant-loop-left l =
    (l.notes ++ map note_of l.left ≡ map note_of l.parts)
    × (AllByRecursion HasFewParts l.left → AllByRecursion HasFewParts l.parts)

abbrev pub decreases-loop-left : goal.decreases-loop-left
decreases-loop-left l = length l.left
