use Rattle.std.proofs.Common.{◌≡◌, length}
use Rattle.pig_plan.specs.NodeKinds.{ascend}
use Rattle.pig_plan.proofs.given.columns_ascend.Given as goal

abbrev pub invariant-loop-left : goal.invariant-loop-left
invariant-loop-left l = ascend l.left ≡ ascend l.columns

abbrev pub decreases-loop-left : goal.decreases-loop-left
decreases-loop-left l = length l.left
