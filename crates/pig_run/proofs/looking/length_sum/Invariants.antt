use Rattle.std.proofs.Common.{◌≡◌, ◌≤◌, ◌+◌, ◌-◌, ◌^◌, length, min}
use Rattle.std.specs.List.{sum_by}
use Rattle.pig_run.proofs.looking.length_sum.Given as goal

abbrev pub invariant-loop-left : goal.invariant-loop-left
invariant-loop-left l = (l.sum ≤ 2 ^ 64 - 1) × (min (l.sum + sum_by (λ n. n) l.left) (2 ^ 64 - 1) ≡ min (sum_by (λ n. n) l.lengths) (2 ^ 64 - 1))

abbrev pub decreases-loop-left : goal.decreases-loop-left
decreases-loop-left l = length l.left
