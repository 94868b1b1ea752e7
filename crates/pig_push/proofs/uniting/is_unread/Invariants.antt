use Rattle.std.proofs.Common.{◌≡◌, ℕ, ◌<◌, false}
use Rattle.std.specs.Prelude.{Some, slice_get}
use Rattle.pig_plan.specs.Nodes.{names}
use Rattle.pig_plan.specs.Plans.{PlanNode, plan_of}
use Rattle.pig_push.proofs.uniting.is_unread.Given as goal

abbrev pub invariant-loop-other : goal.invariant-loop-other
invariant-loop-other l = (m : ℕ) (v : PlanNode) → m < l.other → slice_get (plan_of l.nodes) m ≡ Some v → names v.op l.number ≡ false
