use Rattle.std.proofs.Common.{◌≡◌, ◌++◌, length}
use Rattle.pig_plan.specs.Plans.{plan_of}
use Rattle.pig_rewrites.proofs.rewriting.copied.Given as goal

abbrev pub invariant-loop-left : goal.invariant-loop-left
invariant-loop-left l = plan_of l.copy ++ plan_of l.left ≡ plan_of l.plan

abbrev pub decreases-loop-left : goal.decreases-loop-left
decreases-loop-left l = length l.left
