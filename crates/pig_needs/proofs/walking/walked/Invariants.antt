use Rattle.pig_plan.specs.Plans.{plan_of}
use Rattle.pig_needs.specs.Found.{AreNeedsFrom}
use Rattle.pig_needs.proofs.walking.walked.Given as goal

abbrev pub invariant-nodes : goal.invariant-nodes
invariant-nodes l = AreNeedsFrom (plan_of l.plan) l.number l.found.items

abbrev pub decreases-nodes : goal.decreases-nodes
decreases-nodes l = l.number
