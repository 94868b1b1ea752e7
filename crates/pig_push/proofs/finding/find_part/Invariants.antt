use Rattle.std.proofs.Common.{ℕ, ◌<◌, ◌≤◌, ◌+◌}
use Rattle.pig_plan.specs.Plans.{plan_of}
use Rattle.pig_moves.specs.Pushed.{CanPart}
use Rattle.pig_push.proofs.finding.find_part.Given as goal

abbrev pub invariant-loop-behind : goal.invariant-loop-behind
invariant-loop-behind l = (k : ℕ) → l.count ≤ k + l.behind → k < l.count → (i : ℕ) → CanPart (plan_of l.plan) i k → ⊥
