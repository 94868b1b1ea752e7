use Rattle.std.proofs.Common.{◌≡◌, ℕ, get_or, length}
use Rattle.pig_plan.specs.Plans.{plan_of}
use Rattle.pig_push.specs.Lone.{noted_by}
use Rattle.pig_push.specs.declared.readers.ReadCount.TheVariants as read
use Rattle.pig_push.proofs.readers.readers.Given as goal

abbrev pub invariant-loop-left : goal.invariant-loop-left
invariant-loop-left l = (k : ℕ) → noted_by k l.own (plan_of l.left) (get_or l.found.items k read.Never) ≡ noted_by k 0 (plan_of l.plan) read.Never

abbrev pub decreases-loop-left : goal.decreases-loop-left
decreases-loop-left l = length l.left
