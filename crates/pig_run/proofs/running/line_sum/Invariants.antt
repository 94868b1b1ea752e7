use Rattle.std.proofs.Common.{◌≡◌, ◌+◌, ◌%◌, ◌^◌, length}
use Rattle.std.specs.List.{sum_by}
use Rattle.pig_run.proofs.running.line_sum.Given as goal

abbrev pub invariant-loop-left : goal.invariant-loop-left
invariant-loop-left l = (l.sum + sum_by (λ note. note.lines) l.left) % 2 ^ 64 ≡ sum_by (λ note. note.lines) l.notes % 2 ^ 64

abbrev pub decreases-loop-left : goal.decreases-loop-left
decreases-loop-left l = length l.left
