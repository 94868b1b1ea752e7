use Rattle.std.proofs.Common.{◌≡◌, ◌≤◌, ◌+◌, ◌-◌, ◌^◌, length, min}
use Rattle.pig_run.specs.Looking.{total_of}
use Rattle.pig_run.proofs.looking.size_sum.Given as goal

abbrev pub invariant-loop-left : goal.invariant-loop-left
invariant-loop-left l = (l.sum ≤ 2 ^ 64 - 1) × (min (l.sum + total_of l.left) (2 ^ 64 - 1) ≡ min (total_of l.sizes) (2 ^ 64 - 1))

abbrev pub decreases-loop-left : goal.decreases-loop-left
decreases-loop-left l = length l.left
