use Rattle.std.proofs.Common.{ℕ, ◌<◌, ◌+◌}
use Rattle.pig_plan.specs.Plans.{plan_of}
use Rattle.pig_moves.specs.Pushed.{IsFree}
use Rattle.pig_push.proofs.uniting.are_free.Given as goal

abbrev pub invariant-loop-offset : goal.invariant-loop-offset
invariant-loop-offset l = (j : ℕ) → j < l.offset → IsFree (plan_of l.nodes) (l.first + j)
