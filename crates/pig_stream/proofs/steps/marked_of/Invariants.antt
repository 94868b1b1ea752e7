use Rattle.std.proofs.Common.{◌≡◌, ◌++◌, length}
use Rattle.pig_plan.specs.Plans.{plan_of}
use Rattle.pig_stream.specs.Unmet.{marked}
use Rattle.pig_stream.proofs.steps.marked_of.Given as goal

abbrev pub invariant-nodes : goal.invariant-nodes
invariant-nodes l = l.found ++ marked (plan_of l.nodes) l.left l.rest ≡ marked (plan_of l.nodes) l.path l.marks

abbrev pub decreases-nodes : goal.decreases-nodes
decreases-nodes l = length l.left
