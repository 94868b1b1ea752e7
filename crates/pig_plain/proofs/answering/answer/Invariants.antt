use Rattle.std.proofs.Common.{◌≤◌, ◌-◌, length, map}
use Rattle.pig_value.specs.Trees.{rows_tree}
use Rattle.pig_plan.specs.Plans.{plan_of}
use Rattle.pig_plain.specs.SoFar.{IsSoFar}
use Rattle.pig_plain.proofs.answering.answer.Given as goal

abbrev pub invariant-nodes : goal.invariant-nodes
invariant-nodes l = (l.number ≤ length l.nodes) × IsSoFar (plan_of l.nodes) l.given l.number l.so_far.table l.so_far.kept (map rows_tree l.so_far.stores)

abbrev pub decreases-nodes : goal.decreases-nodes
decreases-nodes l = length l.nodes - l.number
