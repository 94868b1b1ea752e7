use Rattle.std.proofs.Common.{◌≡◌, ℕ, ◌<◌}
use Rattle.std.specs.Prelude.{Some, slice_get, true}
use Rattle.pig_plan.specs.Nodes.{names}
use Rattle.pig_plan.specs.Plans.{PlanNode, plan_of}
use Rattle.pig_push.proofs.reading.is_only_use.Given as goal

abbrev pub invariant-loop-other : goal.invariant-loop-other
invariant-loop-other l = (n : ℕ) (v : PlanNode) → n < l.other → slice_get (plan_of l.nodes) n ≡ Some v → names v.op l.number ≡ true → n ≡ l.user
