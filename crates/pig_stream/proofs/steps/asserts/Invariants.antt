use Rattle.std.proofs.Common.{◌≡◌, length}
use Rattle.std.specs.List.{list_any}
use Rattle.pig_plan.specs.Plans.{plan_of}
use Rattle.pig_stream.specs.Unmet.{is_assert_at}
use Rattle.pig_stream.proofs.steps.asserts.Given as goal

abbrev pub invariant-nodes : goal.invariant-nodes
invariant-nodes l = list_any (is_assert_at (plan_of l.nodes)) l.left ≡ list_any (is_assert_at (plan_of l.nodes)) l.path

abbrev pub decreases-nodes : goal.decreases-nodes
decreases-nodes l = length l.left
