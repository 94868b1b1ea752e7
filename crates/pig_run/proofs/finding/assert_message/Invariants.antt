use Rattle.std.proofs.Common.{◌≡◌, length}
use Rattle.pig_plan.specs.Plans.{plan_of}
use Rattle.pig_run.specs.Texts.{assert_message}
use Rattle.pig_run.proofs.finding.assert_message.Given as goal

abbrev pub invariant-loop-left : goal.invariant-loop-left
invariant-loop-left l = assert_message (plan_of l.left) l.statement ≡ assert_message (plan_of l.nodes) l.statement

abbrev pub decreases-loop-left : goal.decreases-loop-left
decreases-loop-left l = length l.left
