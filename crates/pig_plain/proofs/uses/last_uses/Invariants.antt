use Rattle.std.proofs.Common.{◌≡◌, ◌≤◌, ◌-◌, length}
use Rattle.pig_plan.specs.Plans.{plan_of}
use Rattle.pig_plain.specs.Uses.{AreLate}
use Rattle.pig_plain.proofs.uses.last_uses.Given as goal

abbrev pub invariant-nodes : goal.invariant-nodes
invariant-nodes l = (l.number ≤ length l.nodes) × (length l.ends.items ≡ length l.nodes) × AreLate (plan_of l.nodes) l.number l.ends.items

abbrev pub decreases-nodes : goal.decreases-nodes
decreases-nodes l = length l.nodes - l.number
