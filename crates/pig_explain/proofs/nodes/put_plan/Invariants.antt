-- What is written and what is to come are the whole text.
use Rattle.std.proofs.Common.{◌≡◌, ◌++◌, drop}
use Rattle.std.specs.List.{flat_map}
use Rattle.pig_plan.specs.Plans.{plan_of}
use Rattle.pig_explain.specs.NodeTexts.{node_line}
use Rattle.pig_explain.proofs.nodes.put_plan.Given as goal

abbrev pub invariant-loop-number : goal.invariant-loop-number
invariant-loop-number l = l.out.items ++ flat_map (node_line (plan_of l.nodes) l.order) (drop l.number-index l.order) ≡ l.fn.out.items ++ flat_map (node_line (plan_of l.nodes) l.order) l.order
